use Rattle.std.proofs.Common.{◌≡◌, ◌&&◌, Bool, true, false, sym, ap, ◌∙◌, refl}
use Rattle.kconf_tree.specs.Gathered.{is_bool_or_tristate}
use Rattle.kconf_tree.specs.Types.{declared_at}
use Rattle.kconf_tree.proofs.TreeLaws.{next_passed}
use Rattle.kconf_tree.proofs.modules_symbol.modules_among.Goals as goal
use Rattle.kconf_tree.proofs.modules_symbol.modules_among.Goals.{else-is_bool_or_tristate-via-then-is_bool_or_tristate+else-at, else-is_bool_or_tristate-via-else-is_bool_or_tristate}

neither : (a b : Bool) → b ≡ false → (a && b) ≡ false
neither true b h = h
neither false b h = refl

pub loop-number-preserved : goal.loop-number-preserved
loop-number-preserved c = let ts = c.args.types.now in let n = c.loop-number.number in let s = c.index-symbols-number.result in
    let off : (is_bool_or_tristate s && (declared_at ts n).modules) ≡ false =
    elim c.else-is_bool_or_tristate.branch [
      | else-is_bool_or_tristate-via-then-is_bool_or_tristate+else-at w ↦ neither (is_bool_or_tristate s) (declared_at ts n).modules (ap (λ d. d.modules) (sym w.at.ensures) ∙ w.if-at.false)
      | else-is_bool_or_tristate-via-else-is_bool_or_tristate w ↦ ap (λ b. b && (declared_at ts n).modules) (sym w.if-is_bool_or_tristate.ensures)
    ] in
    next_passed ts c.args.symbols.now n s c.loop-number-test.true c.requires.count c.index-symbols-number.is off ∙ c.loop-number.invariant
