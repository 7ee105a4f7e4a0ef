use Rattle.std.proofs.Common.{◌≡◌, ◌++◌, [], List, subst, sym, arith}
use Rattle.std.specs.Prelude.{Ok, option_to_list}
use Rattle.std.proofs.lemmas.Result.{err_from_is_err_and}
use Rattle.ut_text.specs.Bytes.{Bytes}
use Rattle.cpp_directives.specs.Refusals.{Fails}
use Rattle.cpp_read.specs.Directives.{read_line, said}
use Rattle.cpp_read.specs.LineSteps.{Moves}
use Rattle.cpp_read.specs.declared.uncommented.Found.{Found}
use Rattle.cpp_read.proofs.DirectivesLemmas.{begins_well, other_goes, sign_fails, sign_goes, all_read}
use Rattle.cpp_read.proofs.source.read_source.Goals as goal

pub lines-init : goal.lines-init
lines-init c = ([], [], c.new-chains.ensures.none, c.new-source.ensures, begins_well c.args.bytes.now _ _ (omega arith) c.new-uncommented.ensures)

pub lines-preserved-in-Other : goal.lines-preserved-in-Other
lines-preserved-in-Other c = let i = c.lines.invariant in
    (i.0, i.1, i.2, i.3, other_goes i.1 i.0 c.lines.start _ _ c.lines.uncommented _ _ _ _ c.in-Other.end _ c.in_ok-line.ensures.found c.in-Other.is c.in_ok-line.ensures.end c.end_or-start.ensures c.in_ok-line.ensures.after i.4)

pub returns-in_err-what-in-Sign : goal.returns-in_err-what-in-Sign
returns-in_err-what-in-Sign c = let i = c.lines.invariant in
    let p = err_from_is_err_and c.from_residual-in_err-what-in-Sign.result c.from_residual-in_err-what-in-Sign.ensures.1 in
    let fails : Fails c.in_err-what-in-Sign.field-0.0 (read_line i.0 c.in-Sign.line c.line.new.text.bytes.items) =
    subst (λ (t : Bytes). Fails c.in_err-what-in-Sign.field-0.0 (read_line i.0 c.in-Sign.line t)) c.deref.ensures.value (c.in_err-what-in-Sign.ensures i.0 i.2) in
    rw (p.1, p.2) (sign_fails c.in_err-what-in-Sign.field-0.0 i.1 i.0 c.lines.start _ c.lines.uncommented _ c.line.new.text c.in-Sign.line c.in-Sign.end _ _ c.in_ok-line.ensures.found c.in-Sign.is c.in_ok-line.ensures.end c.end_or-end.ensures fails i.4)

pub lines-preserved : goal.lines-preserved
lines-preserved c = let i = c.lines.invariant in
    let read = c.in_ok-what-in-Sign.ensures i.0 i.2 in
    let line = subst (λ (t : Bytes). read_line i.0 c.in-Sign.line t ≡ Ok (read.0, option_to_list c.in_ok-what-in-Sign.what)) c.deref.ensures.value read.1 in (
      read.0,
      i.1 ++ said c.span_of.result (option_to_list c.in_ok-what-in-Sign.what),
      read.2,
      c.in_ok-keep-in-Sign.ensures.kept i.1 i.3,
      sign_goes i.1 i.0 read.0 c.lines.start _ c.lines.uncommented _ _ c.line.new.text c.in-Sign.line c.in-Sign.end _ c.span_of.result (option_to_list c.in_ok-what-in-Sign.what) _ c.in_ok-line.ensures.found c.in-Sign.is c.in_ok-line.ensures.end c.end_or-end.ensures c.in_ok-line.ensures.after line c.span_of.ensures i.4,
    )

pub returns : goal.returns
returns c = let i = c.lines.invariant in
    all_read c.lines.source i.1 i.0 _ _ _ _ i.3 (subst (λ (f : Found). Moves f c.lines.uncommented c.line.new.self) c.in-End.is c.in_ok-line.ensures.moves) (c.in_ok-end.ensures i.0 i.2) i.4
