-- What is kept of a run is what the run has.
use Rattle.std.proofs.Common.{◌≡◌, ℕ, ◌+◌, ◌<◌, length, get_or, drop, Bool, true, false, ◌&&◌, cond, List, [], ◌∷◌, ◌++◌, map, refl, sym, ap, ◌∙◌, subst}
use Rattle.std.proofs.lemmas.List.{append-nil, at_drop_more}
use Rattle.ut_text.specs.Text.{text_eq}
use Rattle.cpp_directives.specs.declared.condition.Cond.{Cond}
use Rattle.cpp_directives.specs.declared.condition.Cond.TheOpen.{Cond-F}
use Rattle.cpp_directives.specs.declared.condition.Cond.TheFolds.{fold-Cond}
use Rattle.cpp_directives.specs.declared.directive.Directive.{Directive}
use Rattle.cpp_directives.specs.declared.directive.Gives.{Gives}
use Rattle.cpp_directives.specs.declared.directive.What.{What}
use Rattle.cpp_directives.specs.declared.directive.What.TheVariants.{If, Elif, Else, Endif, Define, Undef}
use Rattle.cpp_blocks.specs.declared.run_blocks.RunChain.{RunChain}
use Rattle.cpp_blocks.specs.declared.run_states.RunStates.{RunStates}
use Rattle.cpp_blocks.specs.declared.running.RunPlace.{RunPlace}
use Rattle.cpp_blocks.specs.declared.running.RunSoFar.{RunSoFar}
use Rattle.cpp_blocks.specs.declared.state.MacroState.{MacroState}
use Rattle.cpp_blocks.specs.declared.state.MacroState.TheVariants.{Undefined}
use Rattle.cpp_blocks.specs.Counted.{IsCounted}
use Rattle.cpp_blocks.specs.Run.{Start, OpenChain, Running, cond_step, holds, opened, turned, closed, sets, given, step, beginning, run_from, touches}
use Rattle.cpp_blocks.specs.RunGiven.{state_in}
use Rattle.cpp_blocks.specs.RunSteps.{open_chain, kept, plain, start_at, state_at, piece_at, start_by, running_by, holds_by, holds_at, StandsAs}
use Rattle.cpp_blocks.specs.RunStage.{Stage}
use Rattle.cpp_blocks.specs.RunStage as stage
use Rattle.cpp_blocks.specs.Turns.{touched_at}
use Rattle.cpp_blocks.proofs.TurnLaws.{pieces_counted}

-- ---- conditions

same_step : (start : Start) (r : Running) (y : Cond-F Bool) → cond_step (start_by r.macros (λ text. start.piece text (touches r.touched text))) (running_by r.macros) y ≡ cond_step start r y
same_step start r (Cond-F.Const b) = refl
same_step start r (Cond-F.Defined name) = refl
same_step start r (Cond-F.Plain name) = refl
same_step start r (Cond-F.Piece text) = refl
same_step start r (Cond-F.Neg b) = refl
same_step start r (Cond-F.AllOf bs) = refl
same_step start r (Cond-F.AnyOf bs) = refl

holds_as : (start : Start) (r : Running) (macros : List ℕ → MacroState) (pieces : List ℕ → Bool) → ((name : List ℕ) → macros name ≡ r.macros name) → ((text : List ℕ) → pieces text ≡ start.piece text (touches r.touched text))
    → (c : Cond) → holds_by macros pieces c ≡ holds start r c
holds_as start r macros pieces e f c = (λ i. holds_by (λ name. e name i) (λ text. f text i) c) ∙ ap (λ (s : Cond-F Bool → Bool). fold-Cond Bool s c) (λ i y. same_step start r y i)

-- a condition holds there as in the run
pub holds_there : (place : RunPlace) (s : RunSoFar) (r : Running) → IsCounted place.turns.now r.touched → StandsAs (start_at place) s r → (c : Cond) → holds_at place s.states c ≡ holds (start_at place) r c
holds_there place s r is h c = holds_as (start_at place) r (state_at place s.states) (piece_at place) h.states
    (λ text. ap (λ (f : List ℕ → ℕ). (start_at place).piece text (f text)) (pieces_counted place.turns.now r.touched is)) c

-- ---- blocks

turned_kept : (s : Stage) (cs : List RunChain) (b : Bool) → kept (stage.turned b s cs) ≡ turned (kept s) (map open_chain cs) b
turned_kept s [] b = refl
turned_kept s (c ∷ cs) b = refl

turned_plain : (r : Running) (cs : List OpenChain) (b : Bool) → turned (plain r) cs b ≡ plain (turned r cs b)
turned_plain r [] b = refl
turned_plain r (c ∷ cs) b = refl

turned_macros : (r : Running) (cs : List OpenChain) (b : Bool) → (turned r cs b).macros ≡ r.macros
turned_macros r [] b = refl
turned_macros r (c ∷ cs) b = refl

turned_touched : (r : Running) (cs : List OpenChain) (b : Bool) → (turned r cs b).touched ≡ r.touched
turned_touched r [] b = refl
turned_touched r (c ∷ cs) b = refl

closed_kept : (s : Stage) (cs : List RunChain) → kept (stage.closed s cs) ≡ closed (kept s) (map open_chain cs)
closed_kept s [] = refl
closed_kept s (c ∷ cs) = refl

closed_plain : (r : Running) (cs : List OpenChain) → closed (plain r) cs ≡ plain (closed r cs)
closed_plain r [] = refl
closed_plain r (c ∷ cs) = refl

closed_macros : (r : Running) (cs : List OpenChain) → (closed r cs).macros ≡ r.macros
closed_macros r [] = refl
closed_macros r (c ∷ cs) = refl

closed_touched : (r : Running) (cs : List OpenChain) → (closed r cs).touched ≡ r.touched
closed_touched r [] = refl
closed_touched r (c ∷ cs) = refl

opens : (start : Start) (s : RunSoFar) (new : Stage) (r : Running) (a b : Bool) → StandsAs start s r → a ≡ b → new ≡ stage.opened a s.blocks → StandsAs start (record { blocks = new; states = s.states }) (opened r b)
opens start s new r a b h same e = record {
  blocks = ap kept e ∙ (ap (λ (x : Running). opened x a) h.blocks ∙ ap (λ c. plain (opened r c)) same);
  states = h.states;
}

turns : (start : Start) (s : RunSoFar) (new : Stage) (r : Running) (a b : Bool) → StandsAs start s r → a ≡ b → new ≡ stage.turned a s.blocks s.blocks.chains
    → StandsAs start (record { blocks = new; states = s.states }) (turned r r.chains b)
turns start s new r a b h same e = record {
  blocks = ap kept e ∙ (turned_kept s.blocks s.blocks.chains a
      ∙ (ap (λ (x : Running). turned x x.chains a) h.blocks ∙ (turned_plain r r.chains a ∙ ap (λ c. plain (turned r r.chains c)) same)));
  states = λ name. h.states name ∙ sym (ap (λ (m : List ℕ → MacroState). m name) (turned_macros r r.chains b));
}

closes : (start : Start) (s : RunSoFar) (new : Stage) (r : Running) → StandsAs start s r → new ≡ stage.closed s.blocks s.blocks.chains
    → StandsAs start (record { blocks = new; states = s.states }) (closed r r.chains)
closes start s new r h e = record {
  blocks = ap kept e ∙ (closed_kept s.blocks s.blocks.chains ∙ (ap (λ (x : Running). closed x x.chains) h.blocks ∙ closed_plain r r.chains));
  states = λ name. h.states name ∙ sym (ap (λ (m : List ℕ → MacroState). m name) (closed_macros r r.chains));
}

-- ---- macro lines

-- a macro line in a block that is on
pub sets_on : (start : Start) (s : RunSoFar) (new : RunStates) (r : Running) (name : List ℕ) (state : MacroState) → s.blocks.on ≡ true
    → ((first : MacroState) (x : List ℕ) → state_in first new x ≡ cond (text_eq name x) state (state_in first s.states x))
    → StandsAs start s r → StandsAs start (record { blocks = s.blocks; states = new }) (sets r name state)
sets_on start s new r name state on is h = record {
  blocks = h.blocks;
  states = λ x. is (start.macros x) x ∙ (ap (λ (m : MacroState). cond (text_eq name x) state m) (h.states x) ∙ sym (ap (λ b. cond (b && text_eq name x) state (r.macros x)) run_on));
}
  where
    run_on : r.on ≡ true
    run_on = sym (ap (λ (x : Running). x.on) h.blocks) ∙ on

-- and in one that is off
pub sets_off : (start : Start) (s : RunSoFar) (r : Running) (name : List ℕ) (state : MacroState) → s.blocks.on ≡ false → StandsAs start s r → StandsAs start s (sets r name state)
sets_off start s r name state off h = record {
  blocks = h.blocks;
  states = λ x. h.states x ∙ sym (ap (λ b. cond (b && text_eq name x) state (r.macros x)) run_off);
}
  where
    run_off : r.on ≡ false
    run_off = sym (ap (λ (x : Running). x.on) h.blocks) ∙ off

-- the macro lines of a run
pub touched_step : (start : Start) (r : Running) (d : Directive) → (step start r d).touched ≡ r.touched ++ touched_at d.what
touched_step start r d = by d.what
  where
    by : (w : What) → (step start r (record { line = d.line; what = w })).touched ≡ r.touched ++ touched_at w
    by (If c) = sym (append-nil r.touched)
    by (Elif c) = turned_touched r r.chains (holds start r c) ∙ sym (append-nil r.touched)
    by Else = turned_touched r r.chains true ∙ sym (append-nil r.touched)
    by Endif = closed_touched r r.chains ∙ sym (append-nil r.touched)
    by (Define name gives) = refl
    by (Undef name) = refl

-- ---- directives

-- what is kept after a directive is what the run then has
abbrev pub StepsTo : RunPlace → Directive → RunSoFar → RunSoFar → Type 0
StepsTo place d old new = (r : Running) → IsCounted place.turns.now r.touched → StandsAs (start_at place) old r → StandsAs (start_at place) new (step (start_at place) r d)

by_what : (place : RunPlace) (d : Directive) (old new : RunSoFar) (w : What) → d.what ≡ w → StepsTo place (record { line = d.line; what = w }) old new → StepsTo place d old new
by_what place d old new w e h r counted s = subst (λ (x : What). StandsAs (start_at place) new (step (start_at place) r (record { line = d.line; what = x }))) (sym e) (h r counted s)

pub steps_if : (place : RunPlace) (d : Directive) (s : RunSoFar) (new : Stage) (c : Cond) (b : Bool) → d.what ≡ If c → b ≡ holds_at place s.states c → new ≡ stage.opened b s.blocks
    → StepsTo place d s (record { blocks = new; states = s.states })
steps_if place d s new c b e is to = by_what place d s (record { blocks = new; states = s.states }) (If c) e
    (λ r counted h. opens (start_at place) s new r b (holds (start_at place) r c) h (is ∙ holds_there place s r counted h c) to)

pub steps_elif : (place : RunPlace) (d : Directive) (s : RunSoFar) (new : Stage) (c : Cond) (b : Bool) → d.what ≡ Elif c → b ≡ holds_at place s.states c → new ≡ stage.turned b s.blocks s.blocks.chains
    → StepsTo place d s (record { blocks = new; states = s.states })
steps_elif place d s new c b e is to = by_what place d s (record { blocks = new; states = s.states }) (Elif c) e
    (λ r counted h. turns (start_at place) s new r b (holds (start_at place) r c) h (is ∙ holds_there place s r counted h c) to)

pub steps_else : (place : RunPlace) (d : Directive) (s : RunSoFar) (new : Stage) → d.what ≡ Else → new ≡ stage.turned true s.blocks s.blocks.chains
    → StepsTo place d s (record { blocks = new; states = s.states })
steps_else place d s new e to = by_what place d s (record { blocks = new; states = s.states }) Else e (λ r counted h. turns (start_at place) s new r true true h refl to)

pub steps_endif : (place : RunPlace) (d : Directive) (s : RunSoFar) (new : Stage) → d.what ≡ Endif → new ≡ stage.closed s.blocks s.blocks.chains
    → StepsTo place d s (record { blocks = new; states = s.states })
steps_endif place d s new e to = by_what place d s (record { blocks = new; states = s.states }) Endif e (λ r counted h. closes (start_at place) s new r h to)

pub steps_define : (place : RunPlace) (d : Directive) (s new : RunSoFar) (name : List ℕ) (gives : Gives) (state : MacroState) → d.what ≡ Define name gives → state ≡ given (start_at place) d.line gives
    → ((start : Start) (r : Running) → StandsAs start s r → StandsAs start new (sets r name state)) → StepsTo place d s new
steps_define place d s new name gives state e is to = by_what place d s new (Define name gives) e
    (λ r counted h. subst (λ (x : MacroState). StandsAs (start_at place) new (sets r name x)) is (to (start_at place) r h))

pub steps_undef : (place : RunPlace) (d : Directive) (s new : RunSoFar) (name : List ℕ) → d.what ≡ Undef name
    → ((start : Start) (r : Running) → StandsAs start s r → StandsAs start new (sets r name Undefined)) → StepsTo place d s new
steps_undef place d s new name e to = by_what place d s new (Undef name) e (λ r counted h. to (start_at place) r h)

-- a run that begins
pub begins : (start : Start) (built : Bool) (s : RunSoFar) → s.blocks ≡ stage.begun built → ((first : MacroState) (name : List ℕ) → state_in first s.states name ≡ first) → built ≡ start.built → StandsAs start s (beginning start)
begins start built s blocks states same = record {
  blocks = ap kept blocks ∙ ap (λ b. kept (stage.begun b)) same;
  states = λ name. states (start.macros name) name;
}

-- what is left of a run after the next directive
pub run_next : (start : Start) (r : Running) (ds : List Directive) (i : ℕ) (d : Directive) → i < length ds → d ≡ get_or ds i d → run_from start r (drop i ds) ≡ run_from start (step start r d) (drop (i + 1) ds)
run_next start r ds i d h e = at_drop_more (λ ys. run_from start r ys) ds i d h ∙ ap (λ (x : Directive). run_from start (step start r x) (drop (i + 1) ds)) (sym e)
