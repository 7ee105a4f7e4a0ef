-- Facts of a file mention no block and no state of another: what they mention belongs to nodes that they name.
use Rattle.std.proofs.Common.{◌≡◌, inl, inr, ℕ, Bool, true, false, ◌||◌, List, [], ◌∷◌, Some, refl, sym, subst}
use Rattle.std.specs.List.{list_any}
use Rattle.std.proofs.lemmas.Bool.{false≢true}
use Rattle.std.proofs.lemmas.Option.{none-some}
use Rattle.ut_logic.specs.declared.facts.Fact.{Fact}
use Rattle.ut_logic.specs.declared.item.Item.{Item}
use Rattle.ut_logic.specs.declared.item.Item.TheVariants as item
use Rattle.ut_logic.specs.declared.node.Node.{Node}
use Rattle.ut_logic.specs.declared.node.Node.TheVariants as node
use Rattle.ut_logic.specs.Node.{node_eq}
use Rattle.ut_logic.specs.NodeIdentity.{node_eq-Decides}
use Rattle.cpp_directives.specs.declared.directive.Directive.{Directive}
use Rattle.cpp_blocks.specs.Nodes.{rank_of, IsBelow, IsOrderly, IsListedBy, IsListed, IsOfFile, MentionsOwn}
use Rattle.cpp_blocks.proofs.Meeting.{Each, each_of}

named_is : (P : Node → Type 0) (n : Node) (ns : List Node) → Each P ns → list_any (node_eq n) ns ≡ true → P n
named_is P n [] e h = absurd (false≢true h)
named_is P n (m ∷ ns) e h = by (node_eq n m) refl h (named_is P n ns e.1)
  where
    by : (b : Bool) → node_eq n m ≡ b → (b || list_any (node_eq n) ns) ≡ true → (list_any (node_eq n) ns ≡ true → P n) → P n
    by true q h f = subst P (sym ((node_eq-Decides n m).0 q)) e.0
    by false q h f = f h

-- an item that belongs to a node that may be named
own : (file : ℕ) (ds : List Directive) (rank : ℕ) (names : List Node) (items : List Item) (i : Item) → Each (IsBelow file ds rank) names → IsListedBy names items i → IsOfFile file i
own file ds rank names items (item.Block f b) e (inl m) = absurd (none-some (node.Block f b) (sym m.0))
own file ds rank names items (item.Block f b) e (inr r) = let q : Some (node.Block f b) ≡ Some r.0 = r.1 in let p : node.Block f b ≡ r.0 = cc in
    (subst (IsBelow file ds rank) (sym p) (named_is (IsBelow file ds rank) r.0 names e r.2)).0
own file ds rank names items (item.StateD f n t) e (inl m) = absurd (none-some (node.State f n t) (sym m.0))
own file ds rank names items (item.StateD f n t) e (inr r) = let q : Some (node.State f n t) ≡ Some r.0 = r.1 in let p : node.State f n t ≡ r.0 = cc in
    (subst (IsBelow file ds rank) (sym p) (named_is (IsBelow file ds rank) r.0 names e r.2)).0
own file ds rank names items (item.StateT f n t) e (inl m) = absurd (none-some (node.State f n t) (sym m.0))
own file ds rank names items (item.StateT f n t) e (inr r) = let q : Some (node.State f n t) ≡ Some r.0 = r.1 in let p : node.State f n t ≡ r.0 = cc in
    (subst (IsBelow file ds rank) (sym p) (named_is (IsBelow file ds rank) r.0 names e r.2)).0
own file ds rank names items (item.SymY a) e l = tt
own file ds rank names items (item.SymM a) e l = tt
own file ds rank names items (item.Undeclared a) e l = tt
own file ds rank names items (item.ModeY a) e l = tt
own file ds rank names items (item.ModeM a) e l = tt
own file ds rank names items (item.Outer a) e l = tt
own file ds rank names items (item.Same a b) e l = tt
own file ds rank names items (item.Below a b) e l = tt
own file ds rank names items (item.StartD a b) e l = tt
own file ds rank names items (item.StartT a b) e l = tt
own file ds rank names items (item.Truth a b) e l = tt
own file ds rank names items (item.Piece a b) e l = tt
own file ds rank names items (item.Line a b) e l = tt

-- the facts of a source that name nodes of their own and list what they mention
pub facts_own : (file : ℕ) (ds : List Directive) (fs : List Fact) → Each (IsOrderly file ds) fs → Each IsListed fs → Each (MentionsOwn file) fs
facts_own file ds [] o l = tt
facts_own file ds (f ∷ fs) o l = (
  λ i m. own file ds (rank_of ds f.node) f.names f.items i (each_of (IsBelow file ds (rank_of ds f.node)) f.names o.0) (l.0.mentions i m),
  facts_own file ds fs o.1 l.1,
)
