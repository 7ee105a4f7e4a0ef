-- Lines are read one after another.
use Rattle.std.proofs.Common.{◌≡◌, ◌∙◌, refl, sym, List, [], ◌∷◌}
use Rattle.ut_text.specs.Bytes.{Bytes}
use Rattle.ut_base.specs.Plans.{Plan, Gives, Refuses, Takes, Asks, ◌then◌}
use Rattle.kconf_entries.specs.declared.entries.Var.{Var}
use Rattle.kconf_lines.specs.Lines.{Line}
use Rattle.kconf_cut.specs.Words.{words_of}
use Rattle.kconf_statements.specs.EntryLines.{Before}
use Rattle.kconf_texts.specs.Texts.{Sourcing, words_read, lines_read}
use Rattle.kconf_texts.specs.Laws.{first_lines, IsReadInOrder}

then_assoc : {A B C E : Type 0} (p : Plan A E) (f : A → Plan B E) (g : B → Plan C E) → (p then f) then g ≡ p then (λ x. f x then g)
then_assoc (Gives x) f g = refl
then_assoc (Refuses e) f g = refl
then_assoc (Takes name next) f g = λ i. Takes name (λ bytes. then_assoc (next bytes) f g i)
then_assoc (Asks name next) f g = λ i. Asks name (λ got. then_assoc (next got) f g i)

pub in_order : (vars : List Var) (root : Bytes) (sourcing : Sourcing) (file : Bytes) (front rest : List Line) (before : Before)
    → IsReadInOrder vars root sourcing file front rest before
in_order vars root sourcing file [] rest before = refl
in_order vars root sourcing file (l ∷ ls) rest before =
    let p = words_read vars root sourcing file l.number before (words_of vars l.text) in
    (λ i. p then (λ b. in_order vars root sourcing file ls rest b i))
    ∙ sym (then_assoc p (first_lines vars root sourcing file ls) (lines_read vars root sourcing file rest))
