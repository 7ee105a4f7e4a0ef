use Rattle.std.proofs.Common.{◌∙◌, ◌∷◌, sym}
use Rattle.undertaker.proofs.JudgingLaws.{first_clash, first_hit, first_module, first_undeclared, no_refusal}
use Rattle.undertaker.proofs.judging.refusal.Goals as goal

pub returns-then-clashes-clause-first : goal.returns-then-clashes-clause-first
returns-then-clashes-clause-first c = λ t macros shows of. first_clash t c.args.graph.now macros shows (c.args.own ∷ c.args.path.now) of (sym c.clashes.ensures ∙ c.if-clashes.true)

pub returns-then-branch-clause-first : goal.returns-then-branch-clause-first
returns-then-branch-clause-first c = let hit = c.in_ok-is_hit.ensures.hit in λ t macros shows of. first_hit t c.args.graph.now macros shows (c.args.own ∷ c.args.path.now) of (sym c.clashes.ensures ∙ c.if-clashes.false)
    hit.0 hit.1 (sym hit.2 ∙ c.if-branch.true)

pub returns-then-wants_module-clause-first : goal.returns-then-wants_module-clause-first
returns-then-wants_module-clause-first c = λ t macros shows of. first_module t c.args.graph.now macros shows (c.args.own ∷ c.args.path.now) of (sym c.clashes.ensures ∙ c.if-clashes.false) (sym c.wants_module.ensures ∙ c.if-wants_module.true)

pub returns-then-wants_undeclared-clause-first : goal.returns-then-wants_undeclared-clause-first
returns-then-wants_undeclared-clause-first c = let hit = c.in_ok-is_hit.ensures.hit in λ t macros shows of. first_undeclared t c.args.graph.now macros shows (c.args.own ∷ c.args.path.now) of (sym c.clashes.ensures ∙ c.if-clashes.false)
    hit.0 hit.1 (sym hit.2 ∙ c.if-branch.false) (sym c.wants_module.ensures ∙ c.if-wants_module.false) (sym c.wants_undeclared.ensures ∙ c.if-wants_undeclared.true)

pub returns-clause-first : goal.returns-clause-first
returns-clause-first c = let hit = c.in_ok-is_hit.ensures.hit in λ t macros shows of. no_refusal t c.args.graph.now macros shows (c.args.own ∷ c.args.path.now) of (sym c.clashes.ensures ∙ c.if-clashes.false)
    hit.0 hit.1 (sym hit.2 ∙ c.if-branch.false) (sym c.wants_module.ensures ∙ c.if-wants_module.false) (sym c.wants_undeclared.ensures ∙ c.if-wants_undeclared.false)
