use Rattle.std.proofs.Common.{[]}
use Rattle.ut_base.proofs.ReadingLaws.{exit_is}
use Rattle.kconf_parse.proofs.TreeLaws.{no_entries, tree_came, tree_formed, tree_read, tree_refused}
use Rattle.kconf_parse.proofs.texts.read_entries.Goals as goal

pub returns-in_err-read_text-clause-reads : goal.returns-in_err-read_text-clause-reads
returns-in_err-read_text-clause-reads g c =
    let read = c.in_err-read_text.ensures [] c.new-progress.ensures in
    tree_refused c.args.values.now c.args.root.now c.in_err-read_text.field-0.0 c.from_residual.result read (exit_is c.from_residual.ensures.1)

pub returns-in_err-entries-clause-reads : goal.returns-in_err-entries-clause-reads
returns-in_err-entries-clause-reads g c =
    let read = c.in_ok-read_text.ensures [] c.new-progress.ensures in
    no_entries c.args.values.now c.args.root.now c.from_residual-in_err-entries.result (tree_came c.args.values.now c.args.root.now _ read) (exit_is c.from_residual-in_err-entries.ensures.1)

pub returns-clause-reads : goal.returns-clause-reads
returns-clause-reads g c =
    let read = c.in_ok-read_text.ensures [] c.new-progress.ensures in
    tree_read c.args.values.now c.args.root.now c.in_ok-entries.entries (tree_came c.args.values.now c.args.root.now _ read) c.in_ok-entries.ensures.entries

pub returns-clause-formed : goal.returns-clause-formed
returns-clause-formed g c =
    let read = c.in_ok-read_text.ensures [] c.new-progress.ensures in
    tree_formed c.args.values.now c.args.root.now c.in_ok-entries.entries (tree_came c.args.values.now c.args.root.now _ read) c.in_ok-entries.ensures.entries c.in_ok-entries.ensures.numbered
