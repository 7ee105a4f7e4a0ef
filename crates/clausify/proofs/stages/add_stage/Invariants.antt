-- What the facts so far add to a form is a draft of it, whose clauses are in order.
use Rattle.std.proofs.Common.{take, map}
use Rattle.clausify.specs.Form.{Form}
use Rattle.clausify.specs.ClauseForm.{var_of}
use Rattle.clausify.specs.Order.{staged}
use Rattle.clausify.specs.Draft.{IsDraft, IsSettled}
use Rattle.clausify.proofs.stages.add_stage.Given as goal

abbrev pub invariant-loop-place : goal.invariant-loop-place
invariant-loop-place l = record {
  settled : IsSettled l.vars l.draft.written;
  draft : (s : Form) → IsDraft s l.initial.draft.written l.initial.draft.clauses.items
      → IsDraft (staged (var_of l.vars) l.fn.stage (map (λ f. f.now) (take l.place l.facts)) s) l.draft.written l.draft.clauses.items;
}
