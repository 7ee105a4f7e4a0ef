-- The reports of the rows.
use Rattle.std.proofs.Common.{◌≡◌, ℕ, ◌<◌, zero, suc, false, refl, arith, List, [], ◌∷◌, codes, get_or}
use Rattle.std.specs.Fmt.{digits}
use Rattle.cpp_directives.specs.declared.directive.Directive.{Directive}
use Rattle.cpp_directives.specs.declared.bad.CppBad.TheVariants.{Unclosed}
use Rattle.cpp_blocks.specs.Blocks.{count_of}
use Rattle.ut_case.specs.declared.question.Class.TheVariants as class
use Rattle.ut_case.specs.declared.word.Word.{Word}
use Rattle.ut_case.specs.declared.word.Word.TheVariants.{Dead, Undead, Live}
use Rattle.ut_case.specs.Problem.{Problem}
use Rattle.ut_case.specs.Words.{IsWordOf}
use Rattle.ut_report.specs.Report.{BlockSaid, nothing_said, Blocks, Refusal, AreSaidOn, IsSaidOn, IsReport}
use Rattle.worked_rows.specs.Problems.{over, three_sources, block, none_spent, all_decided}
use Rattle.worked_rows.specs.Texts.{two_tree, undeclared, contrary, dependent, without_a}
use Rattle.worked_rows.proofs.Dependent.{contrary_first, contrary_second, dependent_first, dependent_second}
use Rattle.worked_rows.proofs.Facts.{no_third, no_choice}
use Rattle.worked_rows.proofs.Gated.{gated_word, plain_word}
use Rattle.worked_rows.proofs.Undeclared.{problem, first_word, second_word}

-- a word with nothing under its line
abbrev bare : Word → BlockSaid
bare w = record { word = w; under = [] }

-- what is said right of blocks without evidence
abbrev IsRight : Problem → ℕ → ℕ → List Directive → List BlockSaid → Type 0
IsRight p steps file ds said = AreSaidOn (IsSaidOn p steps false all_decided) file ds said

-- the empty source has no blocks
pub empty_report : (steps : ℕ) → IsReport (over two_tree []) steps false all_decided (codes "blocks 0 dead 0 undead 0 live 0 undecided 0\n")
unfolding digits
empty_report steps = record {
  said = (codes "a.c", Blocks []) ∷ [];
  right = (refl, record { count = refl; each = λ k lt. absurd (no_choice k lt) }, tt);
  lines = refl;
}

-- two blocks with their right words
two_words : (p : Problem) (steps : ℕ) (ds : List Directive) (w v : Word) → 2 ≡ count_of ds → IsWordOf p steps none_spent (block 1) w → IsWordOf p steps none_spent (block 2) v
    → IsRight p steps 0 ds (bare w ∷ bare v ∷ [])
two_words p steps ds w v count first second = record { count = count; each = at }
  where
    at : (k : ℕ) → k < 2 → IsSaidOn p steps false all_decided (record { file = 0; block = suc k }) (get_or (bare w ∷ bare v ∷ []) k nothing_said)
    at zero lt = record { right = first; under = refl }
    at (suc zero) lt = record { right = second; under = refl }
    at (suc (suc k)) lt = absurd (no_third k lt)

-- one block
one_word : (p : Problem) (steps file : ℕ) (ds : List Directive) (w : Word) → 1 ≡ count_of ds → IsWordOf p steps none_spent (record { file = file; block = 1 }) w → IsRight p steps file ds (bare w ∷ [])
one_word p steps file ds w count first = record { count = count; each = at }
  where
    no_second : (k : ℕ) → suc k < 1 → ⊥
    no_second k h = omega arith

    at : (k : ℕ) → k < 1 → IsSaidOn p steps false all_decided (record { file = file; block = suc k }) (get_or (bare w ∷ []) k nothing_said)
    at zero lt = record { right = first; under = refl }
    at (suc k) lt = absurd (no_second k lt)

-- a name that is declared nowhere
pub undeclared_report : (steps : ℕ) → IsReport problem steps false all_decided
    (codes "a.c.B1.missing.globally.dead\na.c.B2.missing.globally.undead\nblocks 2 dead 1 undead 1 live 0 undecided 0\n")
unfolding digits
undeclared_report steps = record {
  said = (codes "a.c", Blocks (bare (Dead class.Missing) ∷ bare (Undead class.Missing) ∷ [])) ∷ [];
  right = (refl, two_words problem steps undeclared (Dead class.Missing) (Undead class.Missing) refl (first_word steps) (second_word steps), tt);
  lines = refl;
}

-- A and then its contrary
pub contrary_report : (steps : ℕ) → IsReport (over two_tree contrary) steps false all_decided
    (codes "a.c.B1.live\na.c.B2.code.globally.dead\nblocks 2 dead 1 undead 0 live 1 undecided 0\n")
unfolding digits
contrary_report steps = record {
  said = (codes "a.c", Blocks (bare Live ∷ bare (Dead class.Code) ∷ [])) ∷ [];
  right = (refl, two_words (over two_tree contrary) steps contrary Live (Dead class.Code) refl (contrary_first steps) (contrary_second steps), tt);
  lines = refl;
}

-- B and then the contrary of A
pub dependent_report : (steps : ℕ) → IsReport (over two_tree dependent) steps false all_decided
    (codes "a.c.B1.live\na.c.B2.kconfig.globally.dead\nblocks 2 dead 1 undead 0 live 1 undecided 0\n")
unfolding digits
dependent_report steps = record {
  said = (codes "a.c", Blocks (bare Live ∷ bare (Dead class.Kconfig) ∷ [])) ∷ [];
  right = (refl, two_words (over two_tree dependent) steps dependent Live (Dead class.Kconfig) refl (dependent_first steps) (dependent_second steps), tt);
  lines = refl;
}

-- three sources, of which one is refused
pub three_report : (steps : ℕ) → IsReport three_sources steps false all_decided
    (codes "a.c.B1.kconfig.globally.dead\nb.c.B1.live\nc.c.refused unclosed 1\nblocks 2 dead 1 undead 0 live 1 undecided 0\n")
unfolding digits
three_report steps = record {
  said = (codes "a.c", Blocks (bare (Dead class.Kconfig) ∷ [])) ∷ (codes "b.c", Blocks (bare Live ∷ [])) ∷ (codes "c.c", Refusal (Unclosed 1)) ∷ [];
  right = (
    refl,
    one_word three_sources steps 0 without_a (Dead class.Kconfig) refl (gated_word steps),
    (refl, one_word three_sources steps 1 without_a Live refl (plain_word steps), (refl, refl, tt)),
  );
  lines = refl;
}
