-- Small texts, with what they list, written out by hand.
use Rattle.std.proofs.Common.{◌≡◌, ◌++◌, ℕ, true, false, refl, List, [], ◌∷◌, Ok, Err, codes}
use Rattle.ut_text.specs.Bytes.{Bytes, newline}
use Rattle.kbuild_paths.specs.declared.step.Step.{Step}
use Rattle.kbuild_paths.specs.declared.step.Step.TheVariants.{On, Free}
use Rattle.kbuild_text.specs.Listings.{listings_in}
use Rattle.kbuild_text.specs.declared.goals.Goal.{Goal}
use Rattle.kbuild_text.specs.declared.goals.Goal.TheVariants.{Object, Folder}
use Rattle.kbuild_text.specs.declared.listings.Listing.{Listing}
use Rattle.kbuild_text.specs.declared.variables.Role.{Role}
use Rattle.kbuild_text.specs.declared.variables.Role.TheVariants.{Goals, Parts}

-- lines of a text
lines : List Bytes → Bytes
lines [] = []
lines (l ∷ ls) = l ++ newline ∷ lines ls

listing : Role → List Step → List Goal → Listing
listing role steps goals = record { role = role; steps = steps; goals = goals }

-- an object and a folder under a symbol
one_line : listings_in (codes "obj-$(CONFIG_A) += a.o d/") ≡ Ok (listing (Goals true) (On (codes "A") ∷ []) (Object (codes "a") ∷ Folder (codes "d/") ∷ []) ∷ [])
unfolding listing
one_line = refl

-- a part, and a folder among parts, which is without effect
parts : listings_in (codes "w-objs := p.o d/") ≡ Ok (listing (Parts (codes "w")) [] (Object (codes "p") ∷ []) ∷ [])
unfolding listing
parts = refl

-- both sides of a conditional part
sides : listings_in (lines (codes "ifdef A" ∷ codes "obj-y += a.o" ∷ codes "else" ∷ codes "obj-m += b.o" ∷ codes "endif" ∷ []))
    ≡ Ok (listing (Goals true) (Free (codes "ifdef A") ∷ []) (Object (codes "a") ∷ []) ∷ listing (Goals true) (Free (codes "else ifdef A") ∷ []) (Object (codes "b") ∷ []) ∷ [])
unfolding lines listing
sides = refl

-- a line joined to the next, and a comment
joined : listings_in (lines (codes "obj-y += a.o \\" ∷ codes " b.o # c.o" ∷ [])) ≡ Ok (listing (Goals true) [] (Object (codes "a") ∷ Object (codes "b") ∷ []) ∷ [])
unfolding lines listing
joined = refl

-- conditional lines without a partner: the lowest counts
alone : listings_in (lines (codes "a \\" ∷ codes "b" ∷ codes "endif" ∷ codes "else" ∷ [])) ≡ Err 3
unfolding lines
alone = refl

unclosed : listings_in (lines (codes "ifdef A" ∷ codes "ifdef B" ∷ codes "endif" ∷ [])) ≡ Err 1
unfolding lines
unclosed = refl
