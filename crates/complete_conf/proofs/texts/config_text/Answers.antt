use Rattle.complete_conf.specs.Config.{by_lists}
use Rattle.complete_conf.specs.Text.{symbol_line}
use Rattle.complete_conf.proofs.Lines.{lines_more}
use Rattle.complete_conf.proofs.texts.config_text.Goals as goal

pub loop-sym-preserved : goal.loop-sym-preserved
loop-sym-preserved c = lines_more (symbol_line c.args.tree.now.shape (by_lists c.args.config.now)) c.loop-sym.sym c.loop-sym.text.items c.push_symbol.new.text.items c.loop-sym.invariant c.in_ok-push_symbol.ensures
