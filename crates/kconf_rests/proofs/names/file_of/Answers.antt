use Rattle.std.proofs.Common.{◌≡◌, ◌∙◌, ℕ, Bool, true, false, IfOk, List, ap, sym, subst, refl}
use Rattle.std.specs.Str.{IsUtf8, is_utf8}
use Rattle.std.proofs.lemmas.Bool.{cond-true, cond-false}
use Rattle.std.proofs.lemmas.Str.{IsUtf8-from_is_utf8, is_utf8-from_IsUtf8}
use Rattle.ut_base.specs.Names.{beside}
use Rattle.kconf_rests.proofs.names.file_of.Goals as goal

no_utf8 : (s : List ℕ) → ¬ (IsUtf8 s) → is_utf8 s ≡ false
no_utf8 s h = by (is_utf8 s) refl
  where
    by : (b : Bool) → is_utf8 s ≡ b → is_utf8 s ≡ false
    by true e = absurd (h (IsUtf8-from_is_utf8 s e))
    by false e = e

pub returns-in-Ok : goal.returns-in-Ok
returns-in-Ok c =
    let e = ap (beside c.args.root.now) c.in-Ok.ensures.cases.0 ∙ sym (cond-true _ _ _ (is_utf8-from_IsUtf8 c.args.path.now c.in-Ok.ensures.cases.1)) in
    subst (λ z. IfOk c.beside.result (λ f. f ≡ z)) e c.beside.ensures

pub returns-in-Err : goal.returns-in-Err
returns-in-Err c = sym (cond-false _ _ _ (no_utf8 c.args.path.now c.in-Err.ensures.cases.0))
