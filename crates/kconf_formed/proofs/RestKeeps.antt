-- What is read after the first words of a line: its expressions are the grammar's, with no more signs than may stand.
use Rattle.std.proofs.Common.{refl, ℕ, ◌≡◌, ◌≤◌, max, arith, Bool, true, false, List, [], ◌∷◌, Option, None, Some, Result, Ok, Err}
use Rattle.std.specs.Prelude.{codes, nat_le, if◌then◌else◌}
use Rattle.std.proofs.Common.{◌<◌, ◌⊎◌, inl, inr}
use Rattle.std.proofs.lemmas.Bool.Decides.{leb_tells}
use Rattle.ut_logic.specs.declared.trit.Trit.TheVariants.{Y}
use Rattle.ut_text.specs.Results.{◌>>=◌}
use Rattle.kconf_entries.specs.declared.entries.DefaultOf.{DefaultOf}
use Rattle.kconf_entries.specs.declared.entries.SelectOf.{SelectOf}
use Rattle.kconf_words.specs.declared.line_words.LineWord.{LineWord}
use Rattle.kconf_words.specs.declared.line_bad.SyntaxKind.{SyntaxKind}
use Rattle.kconf_words.specs.declared.line_bad.SyntaxKind.TheVariants as fault
use Rattle.kconf_words.specs.declared.line_bad.LineBad.{LineBad}
use Rattle.kconf_words.specs.declared.line_bad.LineBad.TheVariants as bad
use Rattle.kconf_words.specs.Kinds.{is_word, is_name, is_name_text, text_of}
use Rattle.ut_text.specs.Bytes.{Bytes}
use Rattle.kconf_exprs.specs.Grammar.{Parsed, Alternatives, expression_at}
use Rattle.kconf_rests.specs.Rests.{most_signs, wanted, with_nothing_after, text_at, name_at, a_name, expression, expression_alone, condition, within_limit, an_expression, a_condition, a_prompt, a_prompt_or_none, without_prompt, a_target, a_value}
use Rattle.kconf_formed.proofs.FlatLaws.{IsFlat, flat_kept}
use Rattle.kconf_formed.proofs.NestingLaws.{IsNested, nesting_kept, nested_by_signs}
use Rattle.kconf_formed.proofs.NamesLaws.{IsNamed, names_kept, name_text}
use Rattle.kconf_formed.proofs.GrammarKeeps.{HasIf, expressions_have}
use Rattle.kconf_formed.proofs.JoinedLaws.{IsOwn, constant_is_own}

-- it holds of what was read, unless the line is refused
abbrev pub OkHas : {A E : Type 0} → (A → Type 0) → Result A E → Type 0
OkHas P (Ok x) = P x
OkHas P (Err e) = Unit {0}

abbrev pub SomeHas : {A : Type 0} → (A → Type 0) → Option A → Type 0
SomeHas P None = Unit {0}
SomeHas P (Some x) = P x

pub then_has : {A B E : Type 0} (P : A → Type 0) (Q : B → Type 0) (r : Result A E) (f : A → Result B E) → OkHas P r → ((x : A) → P x → OkHas Q (f x)) → OkHas Q (r >>= f)
then_has P Q (Ok x) f h g = g x h
then_has P Q (Err e) f h g = tt

-- whatever was read before
pub any_then : {A B E : Type 0} (Q : B → Type 0) (r : Result A E) (f : A → Result B E) → ((x : A) → OkHas Q (f x)) → OkHas Q (r >>= f)
any_then Q (Ok x) f g = g x
any_then Q (Err e) f g = tt

pub wanted_has : {A : Type 0} (P : A → Type 0) (kind : SyntaxKind) (o : Option A) → SomeHas P o → OkHas P (wanted kind o)
wanted_has P kind None h = tt
wanted_has P kind (Some x) h = h

alone_has : {A : Type 0} (P : A → Type 0) (x : A) (ws : List LineWord) → P x → OkHas P (with_nothing_after x ws)
alone_has P x [] h = h
alone_has P x (w ∷ ws) h = tt

-- an expression of the grammar
record IsRead (p : Parsed) : Type 0 where
  flat : IsFlat Alternatives p.signs p.expr
  nested : IsNested Alternatives p.signs p.expr
  names : IsNamed Alternatives p.signs p.expr

expression_read : (ws : List LineWord) → OkHas IsRead (expression ws)
expression_read ws = wanted_has IsRead fault.Expression (expression_at ws) (joined (expression_at ws) (expressions_have IsFlat flat_kept ws) (expressions_have IsNested nesting_kept ws) (expressions_have IsNamed names_kept ws))
  where
    joined : (o : Option Parsed) → HasIf IsFlat Alternatives o → HasIf IsNested Alternatives o → HasIf IsNamed Alternatives o → SomeHas IsRead o
    joined None h g n = tt
    joined (Some p) h g n = record { flat = h; nested = g; names = n }

alone_read : (ws : List LineWord) → OkHas IsRead (expression_alone ws)
alone_read ws = then_has IsRead IsRead (expression ws) (λ e. with_nothing_after e e.rest) (expression_read ws) (λ e h. alone_has IsRead e e.rest h)

-- within the limit on signs an expression is that of a line
own_within : (p : Parsed) → IsRead p → p.signs ≤ 200 → IsOwn p.expr
own_within p h few = record { flat = h.flat; nested = (let deep = nested_by_signs p.signs p.expr h.nested in omega (arith, deep, few)); names = h.names }

limited : {A : Type 0} (P : A → Type 0) (signs : ℕ) (x : A) → (signs ≤ 200 → P x) → OkHas P (within_limit signs x)
limited P signs x h = by (leb_tells signs most_signs)
  where
    by : ((nat_le signs most_signs ≡ true) × (signs ≤ most_signs)) ⊎ ((nat_le signs most_signs ≡ false) × (most_signs < signs)) → OkHas P (within_limit signs x)
    by (inl is) = rw is.0 (h is.1)
    by (inr is) = rw is.0 tt

pub expression_own : (ws : List LineWord) → OkHas IsOwn (an_expression ws)
expression_own ws = then_has IsRead IsOwn (expression_alone ws) (λ e. within_limit e.signs e.expr) (alone_read ws) (λ e h. limited IsOwn e.signs e.expr (own_within e h))

-- a condition of a line's own: y where there is none
record IsCond (p : Parsed) : Type 0 where
  own : p.signs ≤ 200 → IsOwn p.expr

cond_read : (ws : List LineWord) → OkHas IsCond (condition ws)
cond_read [] = record { own = λ few. constant_is_own Y }
cond_read (w ∷ ws) = by (is_word (codes "if") w)
  where
    read : (r : Result Parsed LineBad) → OkHas IsRead r → OkHas IsCond r
    read (Ok p) h = record { own = own_within p h }
    read (Err e) h = tt

    by : (b : Bool) → OkHas IsCond (if b then expression_alone ws else Err (bad.Syntax fault.Extra))
    by true = read (expression_alone ws) (alone_read ws)
    by false = tt

pub condition_own : (ws : List LineWord) → OkHas IsOwn (a_condition ws)
condition_own ws = then_has IsCond IsOwn (condition ws) (λ c. within_limit c.signs c.expr) (cond_read ws) (λ c h. limited IsOwn c.signs c.expr h.own)

pub prompt_own : (ws : List LineWord) → OkHas IsOwn (a_prompt ws)
prompt_own ws = any_then IsOwn (wanted fault.Expression (text_at ws)) a_condition condition_own

pub prompt_or_none_own : (ws : List LineWord) → OkHas (SomeHas IsOwn) (a_prompt_or_none ws)
prompt_or_none_own ws = by (without_prompt ws)
  where
    by : (b : Bool) → OkHas (SomeHas IsOwn) (if b then (a_condition ws >>= λ c. Ok None) else (a_prompt ws >>= λ c. Ok (Some c)))
    by true = any_then (SomeHas IsOwn) (a_condition ws) (λ c. Ok None) (λ c. tt)
    by false = then_has IsOwn (SomeHas IsOwn) (a_prompt ws) (λ c. Ok (Some c)) (prompt_own ws) (λ c h. h)

-- a name
abbrev pub IsNameText : Bytes → Type 0
IsNameText name = is_name_text name ≡ true

abbrev IsNameAt : Bytes × List LineWord → Type 0
IsNameAt n = IsNameText n.0

name_is : (ws : List LineWord) → SomeHas IsNameAt (name_at ws)
name_is [] = tt
name_is (w ∷ ws) = by (is_name w) (name_text w)
  where
    by : (b : Bool) → (b ≡ true → is_name_text (text_of w) ≡ true) → SomeHas IsNameAt (if b then Some (text_of w, ws) else None)
    by true h = h refl
    by false h = tt

pub a_name_is : (ws : List LineWord) → OkHas IsNameText (a_name ws)
a_name_is ws = then_has IsNameAt IsNameText (wanted fault.Named (name_at ws)) (λ n. with_nothing_after n.0 n.1) (wanted_has IsNameAt fault.Named (name_at ws) (name_is ws))
    (λ n h. alone_has IsNameText n.0 n.1 h)

-- the name and the condition of a select, and what a default has
pub record IsOwnSelect (s : SelectOf) : Type 0 where
  pub target : IsNameText s.target
  pub cond : IsOwn s.cond

pub record IsOwnDefault (d : DefaultOf) : Type 0 where
  pub value : IsOwn d.value
  pub cond : IsOwn d.cond

pub target_own : (ws : List LineWord) → OkHas IsOwnSelect (a_target ws)
target_own ws = then_has IsNameAt IsOwnSelect (wanted fault.Named (name_at ws)) (λ n. a_condition n.1 >>= λ c. Ok (record { target = n.0; cond = c })) (wanted_has IsNameAt fault.Named (name_at ws) (name_is ws))
    (λ n k. then_has IsOwn IsOwnSelect (a_condition n.1) (λ c. Ok (record { target = n.0; cond = c })) (condition_own n.1) (λ c h. record { target = k; cond = h }))

pub value_own : (ws : List LineWord) → OkHas IsOwnDefault (a_value ws)
value_own ws = then_has IsRead IsOwnDefault (expression ws) _ (expression_read ws)
    (λ v h. then_has IsCond IsOwnDefault (condition v.rest) _ (cond_read v.rest)
    (λ c g. limited IsOwnDefault (max v.signs c.signs) _ (λ few. record { value = own_within v h (omega (arith, few)); cond = g.own (omega (arith, few)) })))
