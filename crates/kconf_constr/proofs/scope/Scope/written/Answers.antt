use Rattle.std.proofs.Common.{◌≡◌, ◌∙◌, ◌++◌, List, ap, sym, map}
use Rattle.ut_logic.specs.Fold.{any_of}
use Rattle.kconf_entries.specs.declared.expr.Expr.{Expr}
use Rattle.kconf_entries.specs.declared.entries.DefaultOf.{DefaultOf}
use Rattle.kconf_tree.specs.declared.shape.Symbol.{Symbol}
use Rattle.kconf_tree.specs.Shape.{Shape, symbol_at}
use Rattle.kconf_constr.specs.declared.level.Level.TheVariants.{NotN}
use Rattle.kconf_constr.specs.PropertyFormulas.{condition_at, default_counts}
use Rattle.kconf_constr.proofs.WrittenLaws.{fused}
use Rattle.kconf_constr.proofs.scope.Scope.written.Goals as goal

pub returns : goal.returns
returns c = let s = c.args.self.now in let k = c.args.sym in
    let here : c.symbol_at-symbol.result.now ≡ symbol_at s.shape k = c.symbol_at-symbol.ensures.value ∙ ap (λ (t : Shape). symbol_at t k) c.tree.ensures in
    let prompts : c.as_slice.result.now ≡ (symbol_at s.shape k).prompts = c.as_slice.ensures ∙ ap (λ (x : Symbol). x.prompts) here in
    let defaults : c.as_slice-2.result.now ≡ (symbol_at s.shape k).defaults = c.as_slice-2.ensures ∙ ap (λ (x : Symbol). x.defaults) here in
    let first : c.in_ok-formulas.formulas.items ≡ map (condition_at s NotN) (symbol_at s.shape k).prompts = c.in_ok-formulas.ensures ∙ (sym (fused s c.as_slice.result.now) ∙ ap (λ (es : List Expr). map (condition_at s NotN) es) prompts) in
    let second : map (default_counts s) c.as_slice-2.result.now ≡ map (default_counts s) (symbol_at s.shape k).defaults = ap (λ (ds : List DefaultOf). map (default_counts s) ds) defaults in
    c.any_of.ensures.folded ∙ ap any_of (c.in_ok-add_defaults.ensures ∙ (λ z. first z ++ second z))
