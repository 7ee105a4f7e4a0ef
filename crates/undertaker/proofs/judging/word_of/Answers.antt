use Rattle.std.proofs.Common.{◌∷◌, subst, sym}
use Rattle.undertaker.specs.declared.wishes.Wish.{Wish}
use Rattle.undertaker.specs.Judging.{AreOf, IsFirstRefusal}
use Rattle.undertaker.specs.Wishes.{turned}
use Rattle.undertaker.proofs.JudgingLaws.{turned_of}
use Rattle.undertaker.proofs.judging.word_of.Goals as goal

pub returns-in-Some-clause-word : goal.returns-in-Some-clause-word
returns-in-Some-clause-word c = λ t macros shows of. subst (IsFirstRefusal t macros (c.args.own ∷ c.args.path.now)) c.in-Some.is (c.in_ok-class.ensures.first t macros shows of)

pub returns-in-Some-2-clause-word : goal.returns-in-Some-2-clause-word
returns-in-Some-2-clause-word c = λ t macros shows of. (
  subst (IsFirstRefusal t macros (c.args.own ∷ c.args.path.now)) c.in-None.is (c.in_ok-class.ensures.first t macros shows of),
  subst (IsFirstRefusal t macros (turned c.args.own ∷ c.args.path.now)) c.in-Some-2.is (subst (λ (w : Wish). IsFirstRefusal t macros (w ∷ c.args.path.now) c.in_ok-class-2.field-0) c.turned.ensures
      (c.in_ok-class-2.ensures.first t macros shows (subst (λ (w : Wish). AreOf t macros (w ∷ c.args.path.now)) (sym c.turned.ensures) (turned_of t macros c.args.own c.args.path.now of)))),
)

pub returns-in-None-2-clause-word : goal.returns-in-None-2-clause-word
returns-in-None-2-clause-word c = λ t macros shows of. (
  subst (IsFirstRefusal t macros (c.args.own ∷ c.args.path.now)) c.in-None.is (c.in_ok-class.ensures.first t macros shows of),
  subst (IsFirstRefusal t macros (turned c.args.own ∷ c.args.path.now)) c.in-None-2.is (subst (λ (w : Wish). IsFirstRefusal t macros (w ∷ c.args.path.now) c.in_ok-class-2.field-0) c.turned.ensures
      (c.in_ok-class-2.ensures.first t macros shows (subst (λ (w : Wish). AreOf t macros (w ∷ c.args.path.now)) (sym c.turned.ensures) (turned_of t macros c.args.own c.args.path.now of)))),
)
