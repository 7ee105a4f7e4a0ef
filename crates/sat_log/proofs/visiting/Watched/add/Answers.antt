use Rattle.std.proofs.Common.{◌≡◌, ◌-◌, ◌<◌, ◌≤◌, true, [], length, get_or, refl, ap, ◌∙◌, arith}
use Rattle.std.proofs.lemmas.List.{get_or_default, length_push}
use Rattle.ut_logic.specs.Clauses.{literal}
use Rattle.sat_log.specs.Codes.{code_of}
use Rattle.sat_log.proofs.Numbering.{code_high}
use Rattle.sat_log.proofs.Adding.{empty_added, one_added, more_added}
use Rattle.sat_log.proofs.visiting.Watched.add.Goals as goal

pub grow-requires : goal.grow-requires
grow-requires c = (c.args.vars, [], c.requires.watched)

pub add_both-requires-clause-linked : goal.add_both-requires-clause-linked
add_both-requires-clause-linked c = (c.grow.ensures.watched _ _ c.requires.watched).linked

pub add_both-requires-clause-first : goal.add_both-requires-clause-first
add_both-requires-clause-first c =
    let heads = (c.grow.ensures.watched _ _ c.requires.watched).sized.heads in
    omega (arith, heads)

pub add_both-requires-clause-second : goal.add_both-requires-clause-second
add_both-requires-clause-second c =
    let heads = (c.grow.ensures.watched _ _ c.requires.watched).sized.heads in
    omega (arith, heads)

pub add_both-requires-then-lits-eq1-clause-linked : goal.add_both-requires-then-lits-eq1-clause-linked
add_both-requires-then-lits-eq1-clause-linked c = (c.grow.ensures.watched _ _ c.requires.watched).linked

pub add_both-requires-then-lits-eq1-clause-first : goal.add_both-requires-then-lits-eq1-clause-first
add_both-requires-then-lits-eq1-clause-first c =
    let heads = (c.grow.ensures.watched _ _ c.requires.watched).sized.heads in
    let some : 0 < length c.args.lits.now = omega (arith, c.if-lits-eq1.true) in
    let lit = get_or c.args.lits.now 0 (literal 0 true) in
    let is = c.code_of-first.ensures ∙ ap code_of (get_or_default c.args.lits.now 0 _ (literal 0 true) some) in
    let within = c.requires.within 0 (literal 0 true) some in
    omega (arith, heads, is, code_high lit, within.1)

pub add_both-requires-then-lits-eq1-clause-second : goal.add_both-requires-then-lits-eq1-clause-second
add_both-requires-then-lits-eq1-clause-second c =
    let heads = (c.grow.ensures.watched _ _ c.requires.watched).sized.heads in
    let some : 0 < length c.args.lits.now = omega (arith, c.if-lits-eq1.true) in
    let lit = get_or c.args.lits.now 0 (literal 0 true) in
    let is = c.code_of-first.ensures ∙ ap code_of (get_or_default c.args.lits.now 0 _ (literal 0 true) some) in
    let within = c.requires.within 0 (literal 0 true) some in
    omega (arith, heads, is, code_high lit, within.1)

pub add_both-requires-2-clause-linked : goal.add_both-requires-2-clause-linked
add_both-requires-2-clause-linked c = (c.grow.ensures.watched _ _ c.requires.watched).linked

pub add_both-requires-2-clause-first : goal.add_both-requires-2-clause-first
add_both-requires-2-clause-first c =
    let heads = (c.grow.ensures.watched _ _ c.requires.watched).sized.heads in
    let some : 0 < length c.args.lits.now = omega (arith, c.if-lits-eq0.false) in
    let lit = get_or c.args.lits.now 0 (literal 0 true) in
    let is = c.code_of-first.ensures ∙ ap code_of (get_or_default c.args.lits.now 0 _ (literal 0 true) some) in
    let within = c.requires.within 0 (literal 0 true) some in
    omega (arith, heads, is, code_high lit, within.1)

pub add_both-requires-2-clause-second : goal.add_both-requires-2-clause-second
add_both-requires-2-clause-second c =
    let heads = (c.grow.ensures.watched _ _ c.requires.watched).sized.heads in
    let some : 1 < length c.args.lits.now = omega (arith, c.if-lits-eq0.false, c.if-lits-eq1.false) in
    let lit = get_or c.args.lits.now 1 (literal 0 true) in
    let is = c.code_of.ensures ∙ ap code_of (get_or_default c.args.lits.now 1 _ (literal 0 true) some) in
    let within = c.requires.within 1 (literal 0 true) some in
    omega (arith, heads, is, code_high lit, within.1)

pub returns-then-lits-eq0-clause-watched : goal.returns-then-lits-eq0-clause-watched
returns-then-lits-eq0-clause-watched c =
    let before = c.grow.ensures.watched _ _ c.requires.watched in
    empty_added c.args.vars c.grow.new.self _ c.args.lits.now 0 0 (record {
      before = before;
      store = c.in_ok-push.ensures.ok;
      watched = c.add_both.ensures.watched;
      slots = c.add_both.ensures.slots;
      heads = c.add_both.ensures.heads;
      linked = c.add_both.ensures.linked;
      watch_room = c.in_ok-grow.ensures.watch_room;
      room = c.in_ok-grow.ensures.room;
      within = c.requires.within;
    }) refl c.len-number.ensures c.if-lits-eq0.true

pub returns-then-lits-eq1-clause-watched : goal.returns-then-lits-eq1-clause-watched
returns-then-lits-eq1-clause-watched c =
    let before = c.grow.ensures.watched _ _ c.requires.watched in
    let stands : c.len-number.result - 1 ≡ length c.grow.new.self.store = omega (arith, c.len-number.ensures, ap length c.in_ok-push.ensures.ok, length_push c.grow.new.self.store c.args.lits.now) in
    let is_first = c.code_of-first.ensures ∙ ap code_of (get_or_default c.args.lits.now 0 _ (literal 0 true) (omega (arith, c.if-lits-eq1.true))) in
    one_added c.args.vars c.grow.new.self _ c.args.lits.now c.code_of-first.result c.code_of-first.result (record {
      before = before;
      store = c.in_ok-push.ensures.ok;
      watched = c.add_both-then-lits-eq1.ensures.watched;
      slots = c.add_both-then-lits-eq1.ensures.slots;
      heads = c.add_both-then-lits-eq1.ensures.heads;
      linked = c.add_both-then-lits-eq1.ensures.linked;
      watch_room = c.in_ok-grow.ensures.watch_room;
      room = c.in_ok-grow.ensures.room;
      within = c.requires.within;
    }) (literal 0 true) c.if-lits-eq1.true is_first refl refl c.add.ensures.room (rw stands at c.add.ensures.added) c.add.ensures.kept (λ k i o. c.add.ensures.only k i (λ e. o (e ∙ stands)))

pub returns-clause-watched : goal.returns-clause-watched
returns-clause-watched c =
    let before = c.grow.ensures.watched _ _ c.requires.watched in
    let many : 2 ≤ length c.args.lits.now = omega (arith, c.if-lits-eq0.false, c.if-lits-eq1.false) in
    let is_first = c.code_of-first.ensures ∙ ap code_of (get_or_default c.args.lits.now 0 _ (literal 0 true) (omega arith)) in
    let is_second = c.code_of.ensures ∙ ap code_of (get_or_default c.args.lits.now 1 _ (literal 0 true) (omega arith)) in
    more_added c.args.vars c.grow.new.self _ c.args.lits.now c.code_of-first.result c.code_of.result (record {
      before = before;
      store = c.in_ok-push.ensures.ok;
      watched = c.add_both-2.ensures.watched;
      slots = c.add_both-2.ensures.slots;
      heads = c.add_both-2.ensures.heads;
      linked = c.add_both-2.ensures.linked;
      watch_room = c.in_ok-grow.ensures.watch_room;
      room = c.in_ok-grow.ensures.room;
      within = c.requires.within;
    }) (literal 0 true) many c.requires.clause.ordered is_first is_second refl refl
