-- At most one word on a block is right, and at most one text without evidence is the report.
use Rattle.std.proofs.Common.{◌≡◌, ◌⊎◌, ℕ, ◌<◌, suc, Bool, true, false, refl, ap, sym, subst, ◌∙◌, arith, List, [], ◌∷◌, length, get_or, inl, inr, Result, Ok, Err}
use Rattle.std.proofs.lemmas.Bool.{false≢true}
use Rattle.cpp_directives.specs.declared.directive.Directive.{Directive}
use Rattle.cpp_directives.specs.declared.bad.CppBad.{CppBad}
use Rattle.ut_case.specs.declared.question.Ask.{Ask}
use Rattle.ut_case.specs.declared.question.Ask.TheVariants.{Selected, Dropped}
use Rattle.ut_case.specs.declared.question.BlockId.{BlockId}
use Rattle.ut_case.specs.declared.question.Class.{Class}
use Rattle.ut_case.specs.declared.question.Class.TheVariants.{Code, Kconfig, Missing, Unclassified}
use Rattle.ut_case.specs.declared.question.Family.{Family}
use Rattle.ut_case.specs.declared.question.Family.TheVariants as family
use Rattle.ut_case.specs.declared.word.Word.{Word}
use Rattle.ut_case.specs.declared.word.Word.TheVariants.{Dead, Undead, Live, Undecided}
use Rattle.ut_case.specs.Problem.{Source, Problem}
use Rattle.ut_case.specs.Words.{IsFound, IsRefused, HasClass, IsWordOf}
use Rattle.ut_report.specs.Report.{BlockSaid, nothing_said, Said, Blocks, Refusal, Spent, AreSaidOn, IsSaidOf, AreSaid, IsSaidOn, IsReport, report_lines}
use Rattle.ut_report.specs.Lines.{text_of}

module _ (p : Problem) (steps : ℕ) (spent : Family → Ask → Bool) (b : BlockId) where
  -- the words of this block
  abbrev Found : Family → Ask → Type 0
  Found f ask = IsFound p steps spent b f ask

  abbrev Refused : Family → Ask → Type 0
  Refused f ask = IsRefused p steps spent b f ask

  abbrev Stops : Ask → Type 0
  Stops ask = (spent family.Code ask ≡ true) ⊎ (Found family.Code ask × (spent family.Kconfig ask ≡ true))

  -- a question isn't found and refused
  clash : (f : Family) (ask : Ask) → Found f ask → Refused f ask → ⊥
  clash f ask h g = false≢true (sym (g.1 h.1.witness h.1.belongs) ∙ h.1.held)

  -- what is decided isn't undecided
  decided : (c : Bool) → c ≡ false → c ≡ true → ⊥
  decided c h g = false≢true (sym h ∙ g)

  -- where the class stays open none is found
  not_code : (ask : Ask) → Stops ask → Refused family.Code ask → ⊥
  not_code ask (inl h) g = decided (spent family.Code ask) g.0 h
  not_code ask (inr h) g = clash family.Code ask h.0 g

  not_kconfig : (ask : Ask) → Stops ask → Found family.Code ask → spent family.Kconfig ask ≡ false → ⊥
  not_kconfig ask (inl h) g e = decided (spent family.Code ask) g.0 h
  not_kconfig ask (inr h) g e = decided (spent family.Kconfig ask) e h.1

  -- one class
  one_class : (ask : Ask) (c d : Class) → HasClass p steps spent b ask c → HasClass p steps spent b ask d → c ≡ d
  one_class ask (Unclassified n) (Unclassified m) h g = ap Unclassified (h.0 ∙ sym g.0)
  one_class ask (Unclassified n) Code h g = absurd (not_code ask h.1 g)
  one_class ask (Unclassified n) Kconfig h g = absurd (not_kconfig ask h.1 g.0 g.1.0)
  one_class ask (Unclassified n) Missing h g = absurd (not_kconfig ask h.1 g.0 g.1.0)
  one_class ask Code (Unclassified m) h g = absurd (not_code ask g.1 h)
  one_class ask Kconfig (Unclassified m) h g = absurd (not_kconfig ask g.1 h.0 h.1.0)
  one_class ask Missing (Unclassified m) h g = absurd (not_kconfig ask g.1 h.0 h.1.0)
  one_class ask Code Code h g = refl
  one_class ask Code Kconfig h g = absurd (clash family.Code ask g.0 h)
  one_class ask Code Missing h g = absurd (clash family.Code ask g.0 h)
  one_class ask Kconfig Code h g = absurd (clash family.Code ask h.0 g)
  one_class ask Kconfig Kconfig h g = refl
  one_class ask Kconfig Missing h g = absurd (clash family.Kconfig ask g.1 h.1)
  one_class ask Missing Code h g = absurd (clash family.Code ask h.0 g)
  one_class ask Missing Kconfig h g = absurd (clash family.Kconfig ask h.1 g.1)
  one_class ask Missing Missing h g = refl

  -- one word
  pub one_word : (w v : Word) → IsWordOf p steps spent b w → IsWordOf p steps spent b v → w ≡ v
  one_word (Undecided Selected) (Undecided Selected) h g = refl
  one_word (Undecided Selected) (Undecided Dropped) h g = absurd (decided (spent family.Whole Selected) g.0.0 h)
  one_word (Undecided Selected) (Dead d) h g = absurd (decided (spent family.Whole Selected) g.0.0 h)
  one_word (Undecided Selected) (Undead d) h g = absurd (decided (spent family.Whole Selected) g.0.0 h)
  one_word (Undecided Selected) Live h g = absurd (decided (spent family.Whole Selected) g.0.0 h)
  one_word (Undecided Dropped) (Undecided Selected) h g = absurd (decided (spent family.Whole Selected) h.0.0 g)
  one_word (Undecided Dropped) (Undecided Dropped) h g = refl
  one_word (Undecided Dropped) (Dead d) h g = absurd (clash family.Whole Selected h.0 g.0)
  one_word (Undecided Dropped) (Undead d) h g = absurd (decided (spent family.Whole Dropped) g.1.0 h.1)
  one_word (Undecided Dropped) Live h g = absurd (decided (spent family.Whole Dropped) g.1.0 h.1)
  one_word (Dead c) (Undecided Selected) h g = absurd (decided (spent family.Whole Selected) h.0.0 g)
  one_word (Dead c) (Undecided Dropped) h g = absurd (clash family.Whole Selected g.0 h.0)
  one_word (Dead c) (Dead d) h g = ap Dead (one_class Selected c d h.1 g.1)
  one_word (Dead c) (Undead d) h g = absurd (clash family.Whole Selected g.0 h.0)
  one_word (Dead c) Live h g = absurd (clash family.Whole Selected g.0 h.0)
  one_word (Undead c) (Undecided Selected) h g = absurd (decided (spent family.Whole Selected) h.0.0 g)
  one_word (Undead c) (Undecided Dropped) h g = absurd (decided (spent family.Whole Dropped) h.1.0 g.1)
  one_word (Undead c) (Dead d) h g = absurd (clash family.Whole Selected h.0 g.0)
  one_word (Undead c) (Undead d) h g = ap Undead (one_class Dropped c d h.2 g.2)
  one_word (Undead c) Live h g = absurd (clash family.Whole Dropped g.1 h.1)
  one_word Live (Undecided Selected) h g = absurd (decided (spent family.Whole Selected) h.0.0 g)
  one_word Live (Undecided Dropped) h g = absurd (decided (spent family.Whole Dropped) h.1.0 g.1)
  one_word Live (Dead d) h g = absurd (clash family.Whole Selected h.0 g.0)
  one_word Live (Undead d) h g = absurd (clash family.Whole Dropped h.1 g.1)
  one_word Live Live h g = refl

-- ---- reports

-- lists with the same elements are one
same_list : {A : Type 0} (d : A) (xs ys : List A) → length xs ≡ length ys → ((k : ℕ) → k < length xs → get_or xs k d ≡ get_or ys k d) → xs ≡ ys
same_list d [] [] n h = refl
same_list d [] (y ∷ ys) n h = absurd (omega arith)
same_list d (x ∷ xs) [] n h = absurd (omega arith)
same_list d (x ∷ xs) (y ∷ ys) n h = rw (h 0 (omega arith), same_list d xs ys (omega arith) (λ k lt. h (suc k) (omega arith))) refl

module _ (p : Problem) (steps : ℕ) (spent : Spent) where
  -- what is right without evidence
  abbrev Right : BlockId → BlockSaid → Type 0
  Right = IsSaidOn p steps false spent

  -- of a block one thing
  one_block : (b : BlockId) (x y : BlockSaid) → Right b x → Right b y → x ≡ y
  one_block b x y h g = let w = one_word p steps (spent b) b x.word y.word h.right g.right in
      let u = h.under ∙ sym g.under in λ i. record { word = w i; under = u i }

  -- of a source one list
  one_list : (file : ℕ) (ds : List Directive) (xs ys : List BlockSaid) → AreSaidOn Right file ds xs → AreSaidOn Right file ds ys → xs ≡ ys
  one_list file ds xs ys h g = same_list nothing_said xs ys same
      (λ k lt. one_block (record { file = file; block = suc k }) (get_or xs k nothing_said) (get_or ys k nothing_said) (h.each k lt) (g.each k (subst (λ n. k < n) same lt)))
    where
      same : length xs ≡ length ys
      same = h.count ∙ sym g.count

  -- or one refusal
  one_said : (file : ℕ) (r : Result (List Directive) CppBad) (x y : Said) → IsSaidOf Right file r x → IsSaidOf Right file r y → x ≡ y
  one_said file (Ok ds) (Blocks xs) (Blocks ys) h g = ap Blocks (one_list file ds xs ys h g)
  one_said file (Ok ds) (Refusal c) y h g = absurd h
  one_said file (Ok ds) (Blocks xs) (Refusal c) h g = absurd g
  one_said file (Err e) (Blocks xs) y h g = absurd h
  one_said file (Err e) (Refusal c) (Blocks ys) h g = absurd g
  one_said file (Err e) (Refusal c) (Refusal d) h g = ap Refusal (h ∙ sym g)

  -- and of all sources
  all_said : (file : ℕ) (ss : List Source) (xs ys : List (List ℕ × Said)) → AreSaid Right file ss xs → AreSaid Right file ss ys → xs ≡ ys
  all_said file [] [] [] h g = refl
  all_said file [] (x ∷ xs) ys h g = absurd h
  all_said file [] [] (y ∷ ys) h g = absurd g
  all_said file (s ∷ ss) [] ys h g = absurd h
  all_said file (s ∷ ss) (x ∷ xs) [] h g = absurd g
  all_said file (s ∷ ss) ((n, x) ∷ xs) ((m, y) ∷ ys) h g = rw (h.0, g.0, one_said file s.read x y h.1 g.1, all_said (suc file) ss xs ys h.2 g.2) refl

  -- one text is the report
  pub one_report : (text other : List ℕ) → IsReport p steps false spent text → IsReport p steps false spent other → text ≡ other
  one_report text other h g = h.lines ∙ ap (λ said. text_of (report_lines steps said)) (all_said 0 p.sources h.said g.said h.right g.right) ∙ sym g.lines
