-- Lines that a sink took one after another.
use Rattle.std.proofs.Common.{◌≡◌, ◌∙◌, ◌++◌, ◌∷◌, arith, length, [], refl, sym, ap, Option, Some, None, append_assoc, append-nil}
use Rattle.ut_text.specs.Bytes.{Bytes}
use Rattle.ut_base.specs.Outside.{with_more, Puts}
use Rattle.ut_base.specs.declared.outside.PutEnd.{PutEnd}
use Rattle.ut_base.specs.declared.outside.PutEnd.TheVariants as put

more_more : (taken : Option Bytes) (a b : Bytes) → with_more (with_more taken a) b ≡ with_more taken (a ++ b)
more_more None a b = refl
more_more (Some t) a b = ap Some (append_assoc t a b)

-- a text of no byte
pub nothing_left : (text : Bytes) → length text ≡ 0 → text ≡ []
nothing_left [] none = refl
nothing_left (x ∷ text) none = absurd (omega (arith, none))

-- nothing more
pub puts_nothing : (taken : Option Bytes) → Puts taken taken [] put.Done
puts_nothing None = refl
puts_nothing (Some t) = ap Some (sym (append-nil t))

module _ (here mid new : Option Bytes) (line after : Bytes) where
  -- a line, and then the text after it
  pub puts_then : Puts here mid line put.Done → (r : PutEnd) → Puts mid new after r → Puts here new (line ++ after) r
  puts_then h put.Done g = g ∙ ap (λ t. with_more t after) h ∙ more_more here line after
  puts_then h put.Failed g = (
    line ++ g.0,
    g.1,
    ap (λ l. line ++ l) g.2 ∙ sym (append_assoc line g.0 g.1),
    g.3 ∙ ap (λ t. with_more t g.0) h ∙ more_more here line g.0,
  )

-- a fault in the first line
pub puts_part : (here new : Option Bytes) (line after : Bytes) → Puts here new line put.Failed → Puts here new (line ++ after) put.Failed
puts_part here new line after h = (h.0, h.1 ++ after, ap (λ l. l ++ after) h.2 ∙ append_assoc h.0 h.1 after, h.3)
