use Rattle.std.proofs.Common.{sym, ap, ◌∙◌}
use Rattle.ut_text.specs.Text.{text_eq, text_equiv}
use Rattle.kconf_tree.proofs.Places.{distinct_push}
use Rattle.indexmap.specs.IndexSet.{insert_key}
use Rattle.kconf_tree.proofs.outers.distinct.Goals as goal

pub loop-text-preserved : goal.loop-text-preserved
loop-text-preserved c = c.in_ok-insert.ensures.keys ∙ (ap (insert_key text_eq c.loop-text.set.keys) c.new.ensures ∙ (ap (λ ks. insert_key text_eq ks c.in-Some.text) c.loop-text.invariant ∙ sym (distinct_push text_eq text_equiv c.loop-text.yielded c.in-Some.text)))
