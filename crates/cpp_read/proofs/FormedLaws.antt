-- What is read is well formed: each directive may stand where it does, and lines rise.
use Rattle.std.proofs.Common.{◌≡◌, ℕ, ◌+◌, ◌<◌, ◌≤◌, suc, ◌∷◌, ◌++◌, ◌==◌, ◌&&◌, Bool, true, false, cond, List, [], length, None, Some, refl, ap, sym, subst, ◌∙◌, arith}
use Rattle.std.specs.Prelude.{Option, nat_lt, Result, Ok, Err, is_ok}
use Rattle.std.proofs.lemmas.Bool.{false≢true}
use Rattle.std.proofs.lemmas.Bool.Decides.{nat_tests}
use Rattle.ut_text.specs.Bytes.{Bytes}
use Rattle.ut_text.specs.Results.{◌>>=◌}
use Rattle.cpp_directives.specs.declared.bad.CppBad.{CppBad}
use Rattle.cpp_directives.specs.declared.condition.Cond.{Cond}
use Rattle.cpp_directives.specs.declared.condition.Cond.TheVariants.{Defined, Neg}
use Rattle.cpp_directives.specs.declared.directive.Directive.{Directive}
use Rattle.cpp_directives.specs.declared.directive.What.{What}
use Rattle.cpp_directives.specs.declared.directive.What.TheVariants as what
use Rattle.cpp_directives.specs.declared.part.Part.{Part}
use Rattle.cpp_directives.specs.declared.part.Part.TheVariants as part
use Rattle.cpp_directives.specs.Chains.{Earlier, passing, at_end}
use Rattle.cpp_directives.specs.Chains as chain
use Rattle.cpp_directives.specs.WellFormed.{all_passing, lines_rise, IsWellFormed}
use Rattle.cpp_read.specs.declared.cursor.PlacedByte.{PlacedByte}
use Rattle.cpp_read.specs.declared.modes.Mode.{Mode}
use Rattle.cpp_read.specs.declared.modes.Mode.TheVariants.{Code, Line, Open, Block, Close, Str, StrEscape, Char, CharEscape}
use Rattle.cpp_read.specs.declared.words.Word.{Word}
use Rattle.cpp_read.specs.declared.words.Word.TheVariants as word
use Rattle.cpp_read.specs.Comments.{kept_of, opens_comment, mode_after, onto, uncommented}
use Rattle.cpp_read.specs.Condition.{condition}
use Rattle.cpp_read.specs.Cursors.{first}
use Rattle.cpp_read.specs.Directives.{Read, said, span_of, word_at, named, undefined, definition, gives_of, what_of, read_lines, read_of, directives_in}
use Rattle.cpp_read.specs.LogicalLines.{LogicalLine, onto_first, cut, logical_lines, is_white, Marked, bytes_of, ends_of, marked, marked_lines}
use Rattle.cpp_read.specs.Splices.{line_after, placed, returnless, spliced, spliced_bytes}
use Rattle.cpp_read.specs.Tokens.{tokens_of}
use Rattle.cpp_read.specs.Words.{after_white, after_name, part_of}

-- ---- one line

-- what reading a line and the lines after it went through
record Goes (before : List Earlier) (m : Marked) (ms : List Marked) (rs : List Read) : Type 0 where
  more : List Earlier
  ws : List What
  rest : List Read
  passes : passing (part_of (word_at m.text)) m.number before ≡ Ok more
  says : what_of (word_at m.text) (after_name (after_white m.text)) m.number ≡ Ok ws
  left : read_lines more ms ≡ Ok rest
  is : rs ≡ said (span_of m) ws ++ rest

-- what a line says, after what it does to the chains
abbrev one_line : Result (List Earlier) CppBad → Result (List What) CppBad → Result (List Earlier × List What) CppBad
one_line a b = a >>= λ more. b >>= λ ws. Ok (more, ws)

goes : (before : List Earlier) (m : Marked) (ms : List Marked) (rs : List Read) → read_lines before (m ∷ ms) ≡ Ok rs → Goes before m ms rs
goes before m ms rs h = by (passing (part_of (word_at m.text)) m.number before) refl (what_of (word_at m.text) (after_name (after_white m.text)) m.number) refl h
  where
    by : (a : Result (List Earlier) CppBad) → passing (part_of (word_at m.text)) m.number before ≡ a → (b : Result (List What) CppBad) → what_of (word_at m.text) (after_name (after_white m.text)) m.number ≡ b
        → (one_line a b >>= λ x. read_lines x.0 ms >>= λ rest. Ok (said (span_of m) x.1 ++ rest)) ≡ Ok rs → Goes before m ms rs
    by (Err e) p b q h = absurd (cc)
    by (Ok more) p (Err e) q h = absurd (cc)
    by (Ok more) p (Ok ws) q h = last (read_lines more ms) refl h
      where
        last : (r : Result (List Read) CppBad) → read_lines more ms ≡ r → (r >>= λ rest. Ok (said (span_of m) ws ++ rest)) ≡ Ok rs → Goes before m ms rs
        last (Err e) k h = absurd (cc)
        last (Ok rest) k h = let e : rs ≡ said (span_of m) ws ++ rest = cc in record { more = more; ws = ws; rest = rest; passes = p; says = q; left = k; is = e }

-- a line says one thing of its part at most, and nothing only where it does nothing to chains
SaysPart : Part → List What → Type 0
SaysPart p [] = p ≡ part.Other
SaysPart p (w ∷ []) = p ≡ chain.part_of w
SaysPart p (w ∷ x ∷ ws) = ⊥

one : {A : Type 0} (read : Result A CppBad) (f : A → What) (p : Part) (ws : List What) → ((a : A) → p ≡ chain.part_of (f a)) → (read >>= λ a. Ok (f a ∷ [])) ≡ Ok ws → SaysPart p ws
unfolding SaysPart
one (Ok a) f p ws g h = let e : f a ∷ [] ≡ ws = cc in subst (SaysPart p) e (g a)
one (Err e) f p ws g h = absurd (cc)

says_part : (w : Word) (text : Bytes) (n : ℕ) (ws : List What) → what_of w text n ≡ Ok ws → SaysPart (part_of w) ws
unfolding SaysPart
says_part word.If text n ws h = one (condition n (tokens_of text)) (λ c. what.If c) part.If ws (λ a. refl) h
says_part word.Elif text n ws h = one (condition n (tokens_of text)) (λ c. what.Elif c) part.Elif ws (λ a. refl) h
says_part word.Ifdef text n ws h = one (named (after_white text) n) (λ x. what.If (Defined x)) part.If ws (λ a. refl) h
says_part word.Ifndef text n ws h = one (undefined (after_white text) n) (λ c. what.If c) part.If ws (λ a. refl) h
says_part word.Elifdef text n ws h = one (named (after_white text) n) (λ x. what.Elif (Defined x)) part.Elif ws (λ a. refl) h
says_part word.Elifndef text n ws h = one (undefined (after_white text) n) (λ c. what.Elif c) part.Elif ws (λ a. refl) h
says_part word.Else text n ws h = let e : what.Else ∷ [] ≡ ws = cc in subst (SaysPart part.Else) e refl
says_part word.Endif text n ws h = let e : what.Endif ∷ [] ≡ ws = cc in subst (SaysPart part.Endif) e refl
says_part word.Define text n ws h = defined (named (after_white text) n) ws h
  where
    defined : (read : Result Bytes CppBad) (ws : List What) → ((read >>= λ x. Ok (what.Define x (gives_of (after_name (after_white text))))) >>= λ w. Ok (w ∷ [])) ≡ Ok ws → SaysPart part.Other ws
    defined (Ok x) ws h = let e : what.Define x (gives_of (after_name (after_white text))) ∷ [] ≡ ws = cc in subst (SaysPart part.Other) e refl
    defined (Err e) ws h = absurd (cc)
says_part word.Undef text n ws h = one (named (after_white text) n) (λ x. what.Undef x) part.Other ws (λ a. refl) h
says_part word.Other text n ws h = let e : [] ≡ ws = cc in subst (SaysPart part.Other) e refl

-- ---- chains

-- where a line may stand, so may what it says
said_passes : (before more : List Earlier) (m : Marked) (p : Part) (ws : List What) (rest : List Read) → SaysPart p ws → passing p m.number before ≡ Ok more → is_ok (all_passing more (directives_in rest)) ≡ true
    → is_ok (all_passing before (directives_in (said (span_of m) ws ++ rest))) ≡ true
unfolding SaysPart
said_passes before more m p [] rest says passes go = subst (λ b. is_ok (all_passing b (directives_in rest)) ≡ true) same go
  where
    other : passing part.Other m.number before ≡ Ok more
    other = ap (λ q. passing q m.number before) (sym says) ∙ passes

    same : more ≡ before
    same = cc
said_passes before more m p (w ∷ []) rest says passes go =
    ap (λ (r : Result (List Earlier) CppBad). is_ok (r >>= λ b. all_passing b (directives_in rest))) (ap (λ q. passing q m.number before) (sym says) ∙ passes) ∙ go
said_passes before more m p (w ∷ x ∷ ws) rest says passes go = absurd says

chains : (ms : List Marked) (before : List Earlier) (rs : List Read) → read_lines before ms ≡ Ok rs → is_ok (all_passing before (directives_in rs)) ≡ true
chains [] before rs h = by (at_end before) refl h
  where
    by : (r : Result (List Earlier) CppBad) → at_end before ≡ r → (r >>= λ b. Ok []) ≡ Ok rs → is_ok (all_passing before (directives_in rs)) ≡ true
    by (Ok b) e h = let none : [] ≡ rs = cc in subst (λ (xs : List Read). is_ok (all_passing before (directives_in xs)) ≡ true) none (ap is_ok e)
    by (Err f) e h = absurd (cc)
chains (m ∷ ms) before rs h = let g = goes before m ms rs h in
    subst (λ (xs : List Read). is_ok (all_passing before (directives_in xs)) ≡ true) (sym g.is)
    (said_passes before g.more m (part_of (word_at m.text)) g.ws g.rest (says_part (word_at m.text) (after_name (after_white m.text)) m.number g.ws g.says) g.passes (chains ms g.more g.rest g.left))

-- ---- lines

-- bytes stand on this line or a later one, and after a newline on a later one than it
Rises : ℕ → List PlacedByte → Type 0
Rises n [] = Unit {0}
Rises n (c ∷ s) = (n ≤ c.line) × Rises (line_after c.line c.byte) s

lower : (m n : ℕ) (s : List PlacedByte) → n ≤ m → Rises m s → Rises n s
unfolding Rises
lower m n [] h r = tt
lower m n (c ∷ s) h r = (omega (arith, r.0), r.1)

after_above : (line byte : ℕ) → line ≤ line_after line byte
after_above line byte = by (byte == 10)
  where
    by : (b : Bool) → line ≤ cond b (line + 1) line
    by true = omega arith
    by false = omega arith

placed_rises : (at line : ℕ) (bytes : Bytes) → Rises line (placed at line bytes)
unfolding Rises
placed_rises at line [] = tt
placed_rises at line (b ∷ bs) = (omega arith, placed_rises (at + 1) (line_after line b) bs)

returnless_rises : (n : ℕ) (s : List PlacedByte) → Rises n s → Rises n (returnless s)
unfolding Rises
returnless_rises n [] r = tt
returnless_rises n (a ∷ []) r = r
returnless_rises n (a ∷ b ∷ s) r = by (a.byte == 13 && b.byte == 10) (returnless_rises (line_after a.line a.byte) (b ∷ s) r.1)
  where
    by : (x : Bool) → Rises (line_after a.line a.byte) (returnless (b ∷ s)) → Rises n (cond x (returnless (b ∷ s)) (a ∷ returnless (b ∷ s)))
    by true h = lower (line_after a.line a.byte) n (returnless (b ∷ s)) (omega (arith, r.0, after_above a.line a.byte)) h
    by false h = (r.0, h)

spliced_rises : (n : ℕ) (s : List PlacedByte) → Rises n s → Rises n (spliced s)
unfolding Rises
spliced_rises n [] r = tt
spliced_rises n (a ∷ []) r = r
spliced_rises n (a ∷ b ∷ s) r = by (a.byte == 92 && b.byte == 10) (spliced_rises (line_after a.line a.byte) (b ∷ s) r.1) (spliced_rises (line_after b.line b.byte) s r.1.1)
  where
    by : (x : Bool) → Rises (line_after a.line a.byte) (spliced (b ∷ s)) → Rises (line_after b.line b.byte) (spliced s) → Rises n (cond x (spliced s) (a ∷ spliced (b ∷ s)))
    by true h k = lower (line_after b.line b.byte) n (spliced s) (omega (arith, r.0, after_above a.line a.byte, r.1.0, after_above b.line b.byte)) k
    by false h k = (r.0, h)

-- what is kept of a byte begins no later line
KeptLow : ℕ → Option ℕ → Type 0
KeptLow byte None = Unit {0}
KeptLow byte (Some b) = (line : ℕ) → line_after line b ≤ line_after line byte

same_low : (line byte : ℕ) → line_after line byte ≤ line_after line byte
same_low line byte = omega arith

kept_low : (m : Mode) (byte : ℕ) (ahead : Option ℕ) → KeptLow byte (kept_of m byte ahead)
unfolding KeptLow
kept_low Code byte ahead = by (opens_comment byte ahead)
  where
    by : (x : Bool) → KeptLow byte (cond x (Some 32) (Some byte))
    by true = λ line. after_above line byte
    by false = λ line. same_low line byte
kept_low Line byte ahead = by (byte == 10)
  where
    by : (x : Bool) → KeptLow byte (cond x (Some byte) None)
    by true = λ line. same_low line byte
    by false = tt
kept_low Open byte ahead = tt
kept_low Block byte ahead = tt
kept_low Close byte ahead = tt
kept_low Str byte ahead = λ line. same_low line byte
kept_low StrEscape byte ahead = λ line. same_low line byte
kept_low Char byte ahead = λ line. same_low line byte
kept_low CharEscape byte ahead = λ line. same_low line byte

uncommented_rises : (m : Mode) (n : ℕ) (s : List PlacedByte) → Rises n s → Rises n (uncommented m s)
unfolding Rises KeptLow
uncommented_rises m n [] r = tt
uncommented_rises m n (c ∷ s) r = by (kept_of m c.byte (first s)) (kept_low m c.byte (first s)) (uncommented_rises (mode_after m c.byte (first s)) (line_after c.line c.byte) s r.1)
  where
    by : (k : Option ℕ) → KeptLow c.byte k → Rises (line_after c.line c.byte) (uncommented (mode_after m c.byte (first s)) s) → Rises n (onto k c (uncommented (mode_after m c.byte (first s)) s))
    by None low h = lower (line_after c.line c.byte) n (uncommented (mode_after m c.byte (first s)) s) (omega (arith, r.0, after_above c.line c.byte)) h
    by (Some b) low h = (r.0, lower (line_after c.line c.byte) (line_after c.line b) (uncommented (mode_after m c.byte (first s)) s) (low c.line) h)

-- bytes stand on lines from one to another
Between : ℕ → ℕ → List PlacedByte → Type 0
Between n k [] = Unit {0}
Between n k (c ∷ s) = (n ≤ c.line) × (c.line ≤ k) × Between n k s

wider : (m n k : ℕ) (s : List PlacedByte) → n ≤ m → Between m k s → Between n k s
unfolding Between
wider m n k [] h b = tt
wider m n k (c ∷ s) h b = (omega (arith, b.0), b.1, wider m n k s h b.2)

-- the bytes of each line stand on later lines than those of the one before
Apart : ℕ → List LogicalLine → Type 0
Apart n [] = Unit {0}
Apart n (l ∷ ls) = (k : ℕ) × (n ≤ k) × Between n k l.left × Apart (suc k) ls

cut_apart : (n start end : ℕ) (s : List PlacedByte) → Rises n s → Apart n (cut start end s)
unfolding Rises Between Apart
cut_apart n start end [] r = (n, omega arith, tt, tt)
cut_apart n start end (c ∷ s) r = by (c.byte == 10) refl (λ h. cut_apart (suc c.line) c.end end s h) (λ h. cut_apart c.line start end s h)
  where
    next : (c.byte == 10) ≡ true → Rises (c.line + 1) s
    next e = subst (λ (b : Bool). Rises (cond b (c.line + 1) c.line) s) e r.1

    same : (c.byte == 10) ≡ false → Rises c.line s
    same e = subst (λ (b : Bool). Rises (cond b (c.line + 1) c.line) s) e r.1

    first_in : (ls : List LogicalLine) → Apart c.line ls → Apart n (onto_first c ls)
    first_in [] a = tt
    first_in (l ∷ ls) a = (a.0, omega (arith, r.0, a.1), (r.0, a.1, wider c.line n a.0 l.left r.0 a.2), a.3)

    by : (b : Bool) → (c.byte == 10) ≡ b → (Rises (suc c.line) s → Apart (suc c.line) (cut c.end end s)) → (Rises c.line s → Apart c.line (cut start end s))
        → Apart n (cond b (record { start = start; end = c.end; left = [] } ∷ cut c.end end s) (onto_first c (cut start end s)))
    by true e go stay = (c.line, r.0, tt, go (lower (c.line + 1) (suc c.line) s (omega arith) (next e)))
    by false e go stay = first_in (cut start end s) (stay (same e))

-- the numbers of marked lines rise
MarkedRise : ℕ → List Marked → Type 0
MarkedRise n [] = Unit {0}
MarkedRise n (m ∷ ms) = (n ≤ m.number) × MarkedRise (suc m.number) ms

lower_marked : (m n : ℕ) (ms : List Marked) → n ≤ m → MarkedRise m ms → MarkedRise n ms
unfolding MarkedRise
lower_marked m n [] h r = tt
lower_marked m n (x ∷ ms) h r = (omega (arith, r.0), r.1)

one_rises : (n k start end : ℕ) (s : List PlacedByte) (ms : List Marked) → Between n k s → n ≤ k → MarkedRise (suc k) ms → MarkedRise n (marked start end s ++ ms)
unfolding Between MarkedRise
one_rises n k start end [] ms b h r = lower_marked (suc k) n ms (omega arith) r
one_rises n k start end (c ∷ s) ms b h r = by (is_white c.byte) (c.byte == 35) (one_rises n k start end s ms b.2 h r)
  where
    by : (x y : Bool) → MarkedRise n (marked start end s ++ ms)
        → MarkedRise n (cond x (marked start end s) (cond y (record { start = start; end = end; number = c.line; text = bytes_of s; ends = ends_of s } ∷ []) []) ++ ms)
    by true y rest = rest
    by false true rest = (b.0, lower_marked (suc k) (suc c.line) ms (omega (arith, b.1)) r)
    by false false rest = lower_marked (suc k) n ms (omega arith) r

all_rise : (n : ℕ) (ls : List LogicalLine) → Apart n ls → MarkedRise n (marked_lines ls)
unfolding Apart MarkedRise
all_rise n [] a = tt
all_rise n (l ∷ ls) a = one_rises n a.0 l.start l.end l.left (marked_lines ls) a.2 a.1 (all_rise (suc a.0) ls a.3)

lines_lower : (m n : ℕ) (ds : List Directive) → n ≤ m → lines_rise m ds ≡ true → lines_rise n ds ≡ true
lines_lower m n [] h r = refl
lines_lower m n (d ∷ ds) h r = (λ i. below i && lines_rise d.line ds) ∙ back (nat_lt m d.line) (lines_rise d.line ds) r
  where
    front : (a b : Bool) → (a && b) ≡ true → a ≡ true
    front true b h = refl
    front false b h = h

    back : (a b : Bool) → (a && b) ≡ true → b ≡ true
    back true b h = h
    back false b h = absurd (false≢true h)

    less : (a b c : ℕ) → a ≤ b → nat_lt b c ≡ true → nat_lt a c ≡ true
    less a b c l t = grind (arith, nat_tests)

    below : nat_lt n d.line ≡ true
    below = less n m d.line h (front (nat_lt m d.line) (lines_rise d.line ds) r)

is_below : (n m : ℕ) → suc n ≤ m → nat_lt n m ≡ true
is_below n m l = grind (arith, nat_tests)

said_rises : (n : ℕ) (m : Marked) (p : Part) (ws : List What) (rest : List Read) → SaysPart p ws → suc n ≤ m.number → lines_rise m.number (directives_in rest) ≡ true
    → lines_rise n (directives_in (said (span_of m) ws ++ rest)) ≡ true
unfolding SaysPart
said_rises n m p [] rest says h r = lines_lower m.number n (directives_in rest) (omega arith) r
said_rises n m p (w ∷ []) rest says h r = (λ i. is_below n m.number h i && lines_rise m.number (directives_in rest)) ∙ r
said_rises n m p (w ∷ x ∷ ws) rest says h r = absurd says

lines : (ms : List Marked) (before : List Earlier) (rs : List Read) (n : ℕ) → MarkedRise (suc n) ms → read_lines before ms ≡ Ok rs → lines_rise n (directives_in rs) ≡ true
unfolding MarkedRise
lines [] before rs n r h = by (at_end before) h
  where
    by : (x : Result (List Earlier) CppBad) → (x >>= λ b. Ok []) ≡ Ok rs → lines_rise n (directives_in rs) ≡ true
    by (Ok b) h = let none : [] ≡ rs = cc in subst (λ (xs : List Read). lines_rise n (directives_in xs) ≡ true) none refl
    by (Err f) h = absurd (cc)
lines (m ∷ ms) before rs n r h = let g = goes before m ms rs h in
    subst (λ (xs : List Read). lines_rise n (directives_in xs) ≡ true) (sym g.is)
    (said_rises n m (part_of (word_at m.text)) g.ws g.rest (says_part (word_at m.text) (after_name (after_white m.text)) m.number g.ws g.says) r.0 (lines ms g.more g.rest m.number r.1 g.left))

-- what is read of a text is well formed
pub formed : (bytes : Bytes) (rs : List Read) → read_of bytes ≡ Ok rs → IsWellFormed (directives_in rs)
formed bytes rs h = record {
  chains = chains (marked_lines (logical_lines bytes)) [] rs h;
  lines = lines (marked_lines (logical_lines bytes)) [] rs 0
      (all_rise 1 (logical_lines bytes) (cut_apart 1 0 (length bytes) (uncommented Code (spliced_bytes 0 1 bytes))
      (uncommented_rises Code 1 (spliced_bytes 0 1 bytes) (spliced_rises 1 (returnless (placed 0 1 bytes)) (returnless_rises 1 (placed 0 1 bytes) (placed_rises 0 1 bytes)))))) h;
}
