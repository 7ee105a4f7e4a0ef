use Rattle.std.proofs.Common.{◌≡◌, ◌+◌, ◌<◌, ◌++◌, ◌∷◌, [], length, refl, ap, sym, ◌∙◌, subst, arith}
use Rattle.std.specs.Prelude.{Contains}
use Rattle.std.proofs.lemmas.Bool.{false≢true}
use Rattle.std.proofs.lemmas.List.{length_push}
use Rattle.sat_log.specs.Moves.{IsForcing}
use Rattle.sat_log.specs.Watches.{clause_in, HasTrueWatch}
use Rattle.sat_log.proofs.OnceLemmas.{same_last}
use Rattle.sat_log.proofs.Searching.{none_at}
use Rattle.sat_log.proofs.Keeping.{none_forcing, dropped, forces_one, waits_low}
use Rattle.sat_log.proofs.visiting.Watched.first_forcing.Goals as goal

pub loop-place-init : goal.loop-place-init
loop-place-init c = record { store = refl; calm = c.requires.calm; watched = λ ms r a. a }

pub has_true_watch-requires-clause-place : goal.has_true_watch-requires-clause-place
has_true_watch-requires-clause-place c =
    let given = c.requires.watched in
    let some = rw c.in-Some.is at c.first.ensures.some in
    waits_low _ _ given.0 _ some.0 (c.loop-place.invariant.watched given.0 given.1 given.2) some.1

pub has_true_watch-requires-clause-watched : goal.has_true_watch-requires-clause-watched
has_true_watch-requires-clause-watched c =
    let given = c.requires.watched in
    (given.0, given.1, c.loop-place.invariant.watched given.0 given.1 given.2)

pub returns-then-not-has_true_watch-clause-found : goal.returns-then-not-has_true_watch-clause-found
returns-then-not-has_true_watch-clause-found c = λ ms r a.
    let inv = c.loop-place.invariant in
    let some = rw c.in-Some.is at c.first.ensures.some in
    let w = inv.watched ms r a in
    let never : ¬ HasTrueWatch ms c.loop-place.self c.in-Some.place = λ h. false≢true (sym c.if-not-has_true_watch.true ∙ (c.has_true_watch.ensures ms r w).1 h) in
    let f = forces_one _ _ ms c.in-Some.place some.0 w inv.calm some.1 never in
    subst (λ t. (c.in-Some.place < length t) × IsForcing ms (clause_in t c.in-Some.place)) inv.store f

pub loop-place-preserved : goal.loop-place-preserved
loop-place-preserved c =
    let inv = c.loop-place.invariant in
    let some = rw c.in-Some.is at c.first.ensures.some in
    let gone = c.take_first.ensures.list in
    let same : gone.0 ≡ c.in-Some.place = same_last c.take_first.new.self.list some.0 gone.0 c.in-Some.place (sym gone.1 ∙ some.1) in
    record {
      store = inv.store;
      calm = inv.calm;
      watched = λ ms r a.
          let w = inv.watched ms r a in
          let shown = (c.has_true_watch.ensures ms r w).0 c.if-not-has_true_watch.false in
          dropped _ _ _ ms w c.in-Some.place refl refl refl c.take_first.ensures.room (gone.1 ∙ ap (λ t. c.take_first.new.self.list ++ t ∷ []) same) shown;
    }

pub returns-clause-none : goal.returns-clause-none
returns-clause-none c = λ ms r a e i.
    let inv = c.loop-place.invariant in
    let empty = none_at _ _ c.in_default.not-Some c.first.ensures.none in
    none_forcing _ _ ms (inv.watched ms r a) r.apart inv.calm empty e (subst (λ t. Contains t e) (sym inv.store) i)
