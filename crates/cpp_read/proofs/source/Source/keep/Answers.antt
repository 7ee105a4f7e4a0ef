use Rattle.std.proofs.Common.{◌++◌, List, subst, sym}
use Rattle.std.specs.Prelude.{Option, option_to_list}
use Rattle.cpp_directives.specs.declared.directive.What.{What}
use Rattle.cpp_read.specs.Directives.{said}
use Rattle.cpp_read.specs.SpanSteps.{Keeps}
use Rattle.cpp_read.proofs.DirectivesLemmas.{keeps_more}
use Rattle.cpp_read.proofs.source.Source.keep.Goals as goal

pub returns-clause-kept : goal.returns-clause-kept
returns-clause-kept c = λ rs k.
    subst (λ (o : Option What). Keeps (record { directives = c.push.new.self; spans = c.keep_span.new.spans }) (rs ++ said c.args.span (option_to_list o))) (sym c.in-Some.is)
    (keeps_more c.push.new.self c.keep_span.new.spans c.args.self.now rs c.in-Some.what c.args.span c.in_ok-push.ensures.items c.in_ok-keep_span.ensures k)
