-- The first of a list is done before the rest.
use Rattle.std.proofs.Common.{◌≡◌, ℕ, suc, ◌+◌, ◌<◌, List, length, get_or, drop, ap, ◌∙◌, arith}
use Rattle.std.proofs.Math.Seq.{drop-cons}
use Rattle.ut_logic.specs.declared.item.Item.{Item}
use Rattle.ut_logic.specs.declared.facts.Definition.{Definition}
use Rattle.clausify.specs.Form.{Form}
use Rattle.clausify.specs.ClauseForm.{defined, defined_each}

pub defined_step : (at : Item → ℕ) (ds : List Definition) (k : ℕ) (d : Definition) (s : Form) → k < length ds → defined_each at (drop k ds) s ≡ defined_each at (drop (k + 1) ds) (defined at (get_or ds k d) s)
defined_step at ds k d s h = ap (λ es. defined_each at es s) (drop-cons ds k d h) ∙ next
  where
    next : defined_each at (drop (suc k) ds) (defined at (get_or ds k d) s) ≡ defined_each at (drop (k + 1) ds) (defined at (get_or ds k d) s)
    next = let e : suc k ≡ k + 1 = omega arith in ap (λ j. defined_each at (drop j ds) (defined at (get_or ds k d) s)) e
