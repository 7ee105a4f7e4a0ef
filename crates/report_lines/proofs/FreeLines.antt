-- The free lines of a source rise.
use Rattle.std.proofs.Common.{◌≡◌, ℕ, ◌<◌, Bool, true, false, ◌&&◌, List, [], ◌∷◌, refl, subst, inl, inr, arith}
use Rattle.std.specs.Prelude.{Result, Ok, Err, nat_lt}
use Rattle.std.proofs.lemmas.Bool.{false≢true}
use Rattle.cpp_directives.specs.declared.bad.CppBad.{CppBad}
use Rattle.cpp_directives.specs.declared.directive.Directive.{Directive}
use Rattle.cpp_directives.specs.declared.directive.Gives.{Gives}
use Rattle.cpp_directives.specs.declared.directive.Gives.TheVariants.{Zero, Nonzero, Free}
use Rattle.cpp_directives.specs.declared.directive.What.{What}
use Rattle.cpp_directives.specs.declared.directive.What.TheVariants.{If, Elif, Else, Endif, Define, Undef}
use Rattle.cpp_directives.specs.WellFormed.{lines_rise}
use Rattle.cpp_blocks.specs.Alike.{free_line, free_lines, given_line}
use Rattle.ut_case.specs.Posed.{IsRead}
use Rattle.ut_case.specs.Problem.{directives_in}
use Rattle.report_lines.proofs.RisingLists.{In, Rising, in_either, joined_rising}
use borrow.Author.Tests.{ltb-true}

abbrev pub Below : ℕ → ℕ → Type 0
Below a b = a < b

front : (b c : Bool) → (b && c) ≡ true → b ≡ true
front true c h = refl
front false c h = absurd (false≢true h)

back : (b c : Bool) → (b && c) ≡ true → c ≡ true
back true c h = h
back false c h = absurd (false≢true h)

given_is : (n : ℕ) (g : Gives) (x : ℕ) → In (given_line n g) x → n ≡ x
given_is n Zero x h = absurd h
given_is n Nonzero x h = absurd h
given_is n Free x (inl e) = e
given_is n Free x (inr h) = absurd h

own_is : (n : ℕ) (w : What) (x : ℕ) → In (free_line n w) x → n ≡ x
own_is n (If cond) x h = absurd h
own_is n (Elif cond) x h = absurd h
own_is n Else x h = absurd h
own_is n Endif x h = absurd h
own_is n (Define name gives) x h = given_is n gives x h
own_is n (Undef name) x h = absurd h

given_rises : (n : ℕ) (g : Gives) → Rising Below (given_line n g)
given_rises n Zero = tt
given_rises n Nonzero = tt
given_rises n Free = (tt, tt)

own_rises : (n : ℕ) (w : What) → Rising Below (free_line n w)
own_rises n (If cond) = tt
own_rises n (Elif cond) = tt
own_rises n Else = tt
own_rises n Endif = tt
own_rises n (Define name gives) = given_rises n gives
own_rises n (Undef name) = tt

first_above : (l : ℕ) (d : Directive) (ds : List Directive) → lines_rise l (d ∷ ds) ≡ true → l < d.line
first_above l d ds h = ltb-true l d.line (front (nat_lt l d.line) (lines_rise d.line ds) h)

rest_rise : (l : ℕ) (d : Directive) (ds : List Directive) → lines_rise l (d ∷ ds) ≡ true → lines_rise d.line ds ≡ true
rest_rise l d ds h = back (nat_lt l d.line) (lines_rise d.line ds) h

above : (l : ℕ) (ds : List Directive) → lines_rise l ds ≡ true → (x : ℕ) → In (free_lines ds) x → l < x
above l [] h x g = absurd g
above l (d ∷ ds) h x g =
    let first = first_above l d ds h in
    let more : In (free_lines ds) x → d.line < x = above d.line ds (rest_rise l d ds h) x in
    elim (in_either (free_line d.line d.what) (free_lines ds) x g) [ inl e ↦ subst (λ m. l < m) (own_is d.line d.what x e) first | inr e ↦ omega (arith, first, more e) ]

lines_rising : (l : ℕ) (ds : List Directive) → lines_rise l ds ≡ true → Rising Below (free_lines ds)
lines_rising l [] h = tt
lines_rising l (d ∷ ds) h =
    joined_rising Below (free_line d.line d.what) (free_lines ds) (own_rises d.line d.what) (lines_rising d.line ds (rest_rise l d ds h))
    (λ x y p q. let later = above d.line ds (rest_rise l d ds h) y q in subst (λ m. m < y) (own_is d.line d.what x p) later)

-- of what is read
pub read_rises : (r : Result (List Directive) CppBad) → IsRead r → Rising Below (free_lines (directives_in r))
read_rises (Ok ds) h = lines_rising 0 ds h.lines
read_rises (Err e) h = tt
