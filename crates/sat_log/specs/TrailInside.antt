-- A trail's fields and what they stand for. No public contract cites this module.
use Rattle.std.specs.Prelude.{◌≡◌, ◌≤◌, ◌++◌, List, length, take}
use Rattle.ut_logic.specs.declared.literals.Lit.{Lit}
use Rattle.log_check.specs.Derivations.{results}
use Rattle.sat_log.specs.declared.marks.Mark.{Mark}
use Rattle.sat_log.specs.declared.trail.Trail.TheInside.{Inside}
use Rattle.sat_log.specs.Moves.{State}
use Rattle.sat_log.specs.Trails.{TrailView}
use Rattle.sat_log.specs.Inner.{AreTrail}
use Rattle.sat_log.specs.Placing.{ArePlaced}
use Rattle.sat_log.specs.Watches.{AreWatched}

abbrev pub set_marks : Inside → List Mark
set_marks t = take t.set t.marks.items

abbrev pub state_of : Inside → State
state_of t = record { lines = t.lines.items; marks = set_marks t; steps = t.steps }

-- the clause form is what the first known clauses are
abbrev pub form_of : Inside → List (List Lit)
form_of t = take t.form t.watched.store

abbrev pub view_of : Inside → TrailView
view_of t = record { vars = t.vars; clauses = form_of t; state = state_of t }

-- the known clauses are those of the form and the results of the lines; they are watched under the trail
pub record IsTrail (t : Inside) : Type 0 where
  pub trail : AreTrail t.vars (form_of t) t.lines.items t.marks.items t.reasons.items t.set t.low t.values.items t.steps
  pub form_in : t.form ≤ length t.watched.store
  pub known : t.watched.store ≡ form_of t ++ results t.lines.items
  pub watched : AreWatched t.vars t.watched (set_marks t)
  pub placed : ArePlaced t.vars (set_marks t) t.at.items t.latest.items
