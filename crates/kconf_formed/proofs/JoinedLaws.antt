-- Conditions of lines that are joined: flat, and one deeper at most.
use Rattle.std.proofs.Common.{◌≡◌, ◌∙◌, refl, ap, ◌≤◌, arith, true, false, List, [], ◌∷◌, ◌++◌, length, map}
use Rattle.std.specs.Prelude.{nat_le}
use Rattle.std.specs.List.{list_all}
use Rattle.std.proofs.lemmas.Bool.{le-leb}
use Rattle.ut_logic.specs.declared.trit.Trit.{Trit}
use Rattle.ut_logic.specs.declared.trit.Trit.TheVariants.{N, M, Y}
use Rattle.kconf_entries.specs.declared.expr.Expr.{Expr, out-Expr}
use Rattle.kconf_entries.specs.declared.expr.Expr.TheOpen.{Expr-F}
use Rattle.kconf_entries.specs.declared.expr.Expr.TheVariants as expr
use Rattle.kconf_entries.specs.Joined.{joined, members_at, members_of, members_of_all, all_of}
use Rattle.kconf_formed.specs.Flat.{ByAnd, Shaped, is_alike, is_member, shape_of, is_flat}
use Rattle.kconf_formed.specs.Nesting.{nesting}
use Rattle.kconf_formed.specs.Names.{has_names}
use Rattle.kconf_formed.proofs.NamesLaws.{named_at, names_at, have_names, both_have, alone_has, inner_have}
use Rattle.kconf_formed.specs.ReadEntries.{IsFormed}
use Rattle.std.specs.List.{AllByRecursion}
use Rattle.kconf_formed.proofs.FlatLaws.{two, both, all_both, map_both, out_and, out_const, layer, shape_out, flat_at, alone, opened}
use Rattle.kconf_formed.proofs.NestingLaws.{nesting_at, AreWithin, all_within, and_within, inner_within}

-- the condition of a line
pub record IsOwn (e : Expr) : Type 0 where
  pub flat : is_flat e ≡ true
  pub nested : nesting e ≤ 402
  pub names : has_names e ≡ true

abbrev pub AreOwn : List Expr → Type 0
AreOwn es = AllByRecursion IsOwn es

pub constant_is_own : (v : Trit) → IsOwn (expr.Const v)
constant_is_own v = record {
  flat = flat_at (expr.Const v) (Expr-F.Const v) (out_const v) refl;
  nested = (let is = nesting_at (expr.Const v) (Expr-F.Const v) (out_const v) in omega (arith, is));
  names = named_at (expr.Const v) (Expr-F.Const v) (out_const v) refl;
}

-- what conditions bring to a joined one
record Bring (es : List Expr) : Type 0 where
  all : list_all (is_member ByAnd) (map shape_of es) ≡ true
  within : AreWithin 402 es
  names : have_names es ≡ true

bring_nothing : Bring []
bring_nothing = record { all = refl; within = tt; names = refl }

bring_both : (xs ys : List Expr) → Bring xs → Bring ys → Bring (xs ++ ys)
bring_both xs ys a b = record {
  all = ap (list_all (is_member ByAnd)) (map_both shape_of xs ys) ∙ all_both (is_member ByAnd) (map shape_of xs) (map shape_of ys) a.all b.all;
  within = all_within 402 xs ys a.within b.within;
  names = both_have xs ys a.names b.names;
}

member_brings : (e : Expr) → IsOwn e → Bring (members_of e)
member_brings e own = by (out-Expr e) refl
  where
    kept : (x : Expr-F Expr) → out-Expr e ≡ x → is_alike ByAnd (layer x).joins ≡ false → Bring (e ∷ [])
    kept x is k = record {
      all = alone ByAnd e own.flat (ap (λ (p : Shaped). is_alike ByAnd p.joins) (shape_out e ∙ ap layer is) ∙ k);
      within = (own.nested, tt);
      names = alone_has e own.names;
    }

    by : (x : Expr-F Expr) → out-Expr e ≡ x → Bring (members_at e x)
    by (Expr-F.And es) is = record {
      all = (opened ByAnd e es own.flat (shape_out e ∙ ap layer is)).all;
      within = inner_within 402 e es (nesting_at e (Expr-F.And es) is) own.nested;
      names = inner_have e es (names_at e (Expr-F.And es) is) own.names;
    }
    by (Expr-F.Or es) is = kept (Expr-F.Or es) is refl
    by (Expr-F.Const Y) is = bring_nothing
    by (Expr-F.Const M) is = kept (Expr-F.Const M) is refl
    by (Expr-F.Const N) is = kept (Expr-F.Const N) is refl
    by (Expr-F.Name n) is = kept (Expr-F.Name n) is refl
    by (Expr-F.Outer t) is = kept (Expr-F.Outer t) is refl
    by (Expr-F.Compare l s r) is = kept (Expr-F.Compare l s r) is refl
    by (Expr-F.Neg f) is = kept (Expr-F.Neg f) is refl

members_bring : (es : List Expr) → AreOwn es → Bring (members_of_all es)
members_bring [] h = bring_nothing
members_bring (e ∷ es) h = bring_both (members_of e) (members_of_all es) (member_brings e h.0) (members_bring es h.1)

joined_formed : (es : List Expr) → Bring es → IsFormed (joined es)
joined_formed [] h = let own = constant_is_own Y in record { flat = own.flat; nested = omega (arith, own.nested); names = own.names }
joined_formed (e ∷ []) h = record {
  flat = (two (is_flat e) _ ((two (is_member ByAnd (shape_of e)) true h.all).0)).0;
  nested = (let w = h.within in omega (arith, w.0));
  names = (two (has_names e) true h.names).0;
}
joined_formed (e ∷ f ∷ es) h = record {
  flat = flat_at (expr.And (e ∷ f ∷ es)) (Expr-F.And (e ∷ f ∷ es)) (out_and (e ∷ f ∷ es))
      (both (nat_le 2 (length (map shape_of (e ∷ f ∷ es)))) (list_all (is_member ByAnd) (map shape_of (e ∷ f ∷ es))) (le-leb 2 (length (map shape_of (e ∷ f ∷ es))) (omega arith)) h.all);
  nested = (let g = and_within 402 (e ∷ f ∷ es) h.within in omega (arith, g));
  names = named_at (expr.And (e ∷ f ∷ es)) (Expr-F.And (e ∷ f ∷ es)) (out_and (e ∷ f ∷ es)) h.names;
}

-- all of the conditions of lines
pub joined_is_formed : (es : List Expr) → AreOwn es → IsFormed (all_of es)
joined_is_formed es h = joined_formed (members_of_all es) (members_bring es h)

-- so is one alone
pub own_is_formed : (e : Expr) → IsOwn e → IsFormed e
own_is_formed e h = record { flat = h.flat; nested = omega (arith, h.nested); names = h.names }
