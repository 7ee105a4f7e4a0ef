use Rattle.kbuild_text.specs.Words.{words_of}
use Rattle.kbuild_text.proofs.ListingLaws.{assigned, closed, turned}
use Rattle.kbuild_text.proofs.listings.Reader.read.Goals as goal

pub returns-in_ok-assign-in-Assigns : goal.returns-in_ok-assign-in-Assigns
returns-in_ok-assign-in-Assigns c =
    assigned c.args.self.now.listings c.args.self.now.chains c.assign.new.self.chains c.args.number c.args.line.now c.in-Assigns.variable.now (words_of c.in-Assigns.values.now)
    c.assign.new.self.listings c.in-Assigns.ensures c.in_ok-assign-in-Assigns.ensures.chains c.in_ok-assign-in-Assigns.ensures.listings

pub returns-else-not-branch : goal.returns-else-not-branch
returns-else-not-branch c =
    turned c.args.self.now.listings c.args.self.now.chains c.turn.new.self c.args.number c.args.line.now (words_of c.in-Turns.rest.now) c.in_ok-turn-in-Turns.field-0
    c.in-Turns.ensures c.in_ok-turn-in-Turns.ensures c.if-not-branch.false

pub returns-else-not-close : goal.returns-else-not-close
returns-else-not-close c =
    closed c.args.self.now.listings c.args.self.now.chains c.close.new.self c.args.number c.args.line.now c.close.result c.in-Closes.ensures c.close.ensures c.if-not-close.false
