-- The open blocks from the innermost: the wish of each, and whether some two of the wishes up to it clash.
use Rattle.std.specs.Prelude.{◌≡◌, List, [], ◌∷◌, map}
use Rattle.undertaker.specs.declared.wishes.Wish.{Wish}
use Rattle.undertaker.specs.declared.path.Level.{Level}
use Rattle.undertaker.specs.Wishes.{clashes}

abbrev pub wishes_of : List Level → List Wish
wishes_of levels = map (λ (l : Level). l.wish) levels

abbrev pub AreLevels : List Level → Type 0
AreLevels [] = Unit {0}
AreLevels (l ∷ ls) = (l.clashes ≡ clashes (wishes_of (l ∷ ls))) × AreLevels ls
