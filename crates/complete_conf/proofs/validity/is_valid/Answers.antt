use Rattle.std.proofs.Common.{refl}
use Rattle.complete_conf.specs.Config.{by_lists}
use Rattle.complete_conf.proofs.Extremes.{values_small}
use Rattle.complete_conf.proofs.ValidLaws.{valid_from, right_from, choices_from}
use Rattle.complete_conf.proofs.validity.is_valid.Goals as goal

pub returns-then-symbols_are_right : goal.returns-then-symbols_are_right
returns-then-symbols_are_right c = let t = c.args.tree.now.shape in let conf = by_lists c.args.config.now in (
  λ h. valid_from t conf (λ name. refl) (values_small c.args.config.now) (c.symbols_are_right.ensures.0 c.if-symbols_are_right.true) (c.choices_are_right.ensures.0 h),
  λ v. c.choices_are_right.ensures.1 (choices_from t conf v),
)

pub returns-else-symbols_are_right : goal.returns-else-symbols_are_right
returns-else-symbols_are_right c = let t = c.args.tree.now.shape in let conf = by_lists c.args.config.now in
    (λ h. absurd (cc), λ v. absurd (let right = c.symbols_are_right.ensures.1 (right_from t conf v) in let off = c.if-symbols_are_right.false in cc))
