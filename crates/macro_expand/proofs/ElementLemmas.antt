-- What stands at the front of a replacement list is the first of its elements.
use Rattle.std.proofs.Common.{◌≡◌, ℕ, Bool, true, false, ◌&&◌, List, [], ◌∷◌}
use Rattle.std.proofs.Common.{drop, refl, ap, sym, ◌∙◌, codes, if◌then◌else◌, Option}
use Rattle.std.proofs.lemmas.Bool.{and_parts, and_left, and_right, or_from, or_cases, cases_Bool, true≢false}
use Rattle.std.proofs.lemmas.Bool.{true_from_ne_false, false_from_ne_true}
use Rattle.std.proofs.Math.Bool.{and-true}
use Rattle.std.proofs.Math.Logic.{⊎_elim}
use Rattle.std.proofs.lemmas.Option.{none-some}
use Rattle.std.specs.Prelude.{Some, None}
use Rattle.tok_data.specs.declared.tokens.OutToken.{OutToken}
use Rattle.tok_data.specs.declared.tokens.PpKind.{PpKind}
use Rattle.tok_data.specs.declared.tokens.PpKind.TheVariants as kind
use Rattle.macro_table.specs.declared.definition.MacroDef.{MacroDef}
use Rattle.macro_expand.specs.declared.types.Marked.{Marked}
use Rattle.macro_expand.specs.declared.operands.Operand.{Operand}
use Rattle.macro_expand.specs.Tokens.{is_ident, is_punct, is_mark, is_hash, is_paste, begins_paste, plain}
use Rattle.macro_expand.specs.Arguments.{arg_of}
use Rattle.macro_expand.specs.Ties.Building as build
use Rattle.macro_expand.specs.Ties.Building.{operand}
use Rattle.macro_expand.specs.Substitution as meant
use Rattle.macro_expand.specs.Substitution.{Element, Paste, Quoted, Param, Other}
use Rattle.macro_expand.specs.Substitution.{elements}
use Rattle.macro_expand.proofs.Cases.{if_cases}
use Rattle.macro_expand.proofs.ReadingLemmas.{no_mark}

-- an element as it is read
abbrev pub operand_of : Element → Operand
operand_of (Paste t) = build.plain_operand t
operand_of (Quoted t arg) = build.string_operand t arg
operand_of (Param t arg) = build.argument_operand t arg
operand_of (Other t) = build.plain_operand t

-- a mark is no parameter, and `##` isn't `#`
punct_ident : (k : PpKind) → is_punct k ≡ true → is_ident k ≡ false
punct_ident kind.Ident e = absurd (true≢false (sym e))
punct_ident kind.Number e = refl
punct_ident kind.Char e = refl
punct_ident kind.Str e = refl
punct_ident kind.Header e = refl
punct_ident kind.Punct e = refl
punct_ident kind.Stray e = refl

mark_ident : (text : List ℕ) (t : OutToken) → is_mark text t ≡ true → is_ident t.kind ≡ false
unfolding is_mark
mark_ident text t e = punct_ident t.kind (and_parts _ _ e).0

paste_ident : (t : OutToken) → is_paste t ≡ true → is_ident t.kind ≡ false
unfolding is_paste
paste_ident t e = ⊎_elim (mark_ident (codes "##") t) (mark_ident (codes "%:%:") t) (or_cases _ _ e)

hash_ident : (t : OutToken) → is_hash t ≡ true → is_ident t.kind ≡ false
unfolding is_hash
hash_ident t e = ⊎_elim (mark_ident (codes "#") t) (mark_ident (codes "%:") t) (or_cases _ _ e)

paste_hash : (t : OutToken) → is_paste t ≡ true → is_hash t ≡ false
unfolding is_paste is_hash
paste_hash t e =
    ⊎_elim
    (λ long. or_from _ _ (no_mark (codes "##") (codes "#") t refl long) (no_mark (codes "##") (codes "%:") t refl long))
    (λ short. or_from _ _ (no_mark (codes "%:%:") (codes "#") t refl short)
    (no_mark (codes "%:%:") (codes "%:") t refl short))
    (or_cases _ _ e)

no_arg : (def : MacroDef) (args : List (List Marked)) (t : OutToken) → is_ident t.kind ≡ false → arg_of def args t ≡ None
unfolding arg_of
no_arg def args t e = if_cases (λ (o : Option (List Marked)). o ≡ None) (is_ident t.kind) _ _
    (λ yes. absurd (true≢false (sym yes ∙ e))) (λ _. refl)

arg_ident : (def : MacroDef) (args : List (List Marked)) (t : OutToken) (arg : List Marked)
    → arg_of def args t ≡ Some arg → is_ident t.kind ≡ true
arg_ident def args t arg is =
    true_from_ne_false (is_ident t.kind) (λ e. none-some arg (sym (no_arg def args t e) ∙ is))

arg_hash : (def : MacroDef) (args : List (List Marked)) (t : OutToken) (arg : List Marked)
    → arg_of def args t ≡ Some arg → is_hash t ≡ false
arg_hash def args t arg is =
    false_from_ne_true (is_hash t) (λ e. true≢false (sym (arg_ident def args t arg is) ∙ hash_ident t e))

arg_paste : (def : MacroDef) (args : List (List Marked)) (t : OutToken) (arg : List Marked)
    → arg_of def args t ≡ Some arg → is_paste t ≡ false
arg_paste def args t arg is =
    false_from_ne_true (is_paste t) (λ e. true≢false (sym (arg_ident def args t arg is) ∙ paste_ident t e))

-- what stands at the front of a replacement list
pub record Front (def : MacroDef) (args : List (List Marked)) (t : OutToken) (ts : List OutToken) : Type 0 where
  pub element : Element
  pub operand_is : operand def args t ts ≡ operand_of element
  pub elements_are : elements def args (t ∷ ts) ≡ element ∷ elements def args (drop (operand_of element).more ts)
  pub paste : is_paste t ≡ true → element ≡ Paste t
  pub plainly : is_paste t ≡ false → meant.paste_follows (element ∷ []) ≡ false

paste_front : (def : MacroDef) (args : List (List Marked)) (t : OutToken) (ts : List OutToken) → is_paste t ≡ true
    → Front def args t ts
unfolding operand
paste_front def args t ts e =
    let none : arg_of def args t ≡ None = no_arg def args t (paste_ident t e) in
    record {
      element = Paste t;
      operand_is = ap (λ (b : Bool). if b
          then build.operand_by build.string_operand t (build.first_arg def args ts)
          else build.operand_by build.argument_operand t (arg_of def args t)) (paste_hash t e)
          ∙ ap (build.operand_by build.argument_operand t) none;
      elements_are =
          ap (λ (o : Option (List Marked)). meant.before (meant.element_by t o) (elements def args ts)) none
          ∙ ap (λ (b : Bool). meant.before (if b then Paste t else Other t) (elements def args ts)) e;
      paste = λ _. refl;
      plainly = λ e'. absurd (true≢false (sym e ∙ e'));
    }

param_front : (def : MacroDef) (args : List (List Marked)) (t : OutToken) (ts : List OutToken) (arg : List Marked)
    → arg_of def args t ≡ Some arg → Front def args t ts
unfolding operand
param_front def args t ts arg is =
    record {
      element = Param t arg;
      operand_is = ap (λ (b : Bool). if b
          then build.operand_by build.string_operand t (build.first_arg def args ts)
          else build.operand_by build.argument_operand t (arg_of def args t)) (arg_hash def args t arg is)
          ∙ ap (build.operand_by build.argument_operand t) is;
      elements_are =
          ap (λ (o : Option (List Marked)). meant.before (meant.element_by t o) (elements def args ts)) is;
      paste = λ e. absurd (true≢false (sym e ∙ arg_paste def args t arg is));
      plainly = λ _. refl;
    }

quoted_front : (def : MacroDef) (args : List (List Marked)) (t : OutToken) (ts : List OutToken) (arg : List Marked)
    → is_paste t ≡ false → is_hash t ≡ true → build.first_arg def args ts ≡ Some arg → Front def args t ts
unfolding operand
quoted_front def args t [] arg plain hash is = absurd (none-some arg is)
quoted_front def args t (u ∷ us) arg plain hash is =
    let none : arg_of def args t ≡ None = no_arg def args t (hash_ident t hash) in
    let us_are : List Element = elements def args us in
    record {
      element = Quoted t arg;
      operand_is = ap (λ (b : Bool). if b
          then build.operand_by build.string_operand t (build.first_arg def args (u ∷ us))
          else build.operand_by build.argument_operand t (arg_of def args t)) hash
          ∙ ap (build.operand_by build.string_operand t) is;
      elements_are =
          ap (λ (o : Option (List Marked)). meant.before (meant.element_by t o)
          (meant.before (meant.element_by u (arg_of def args u)) us_are)) none
          ∙ ap (λ (b : Bool). meant.before (if b then Paste t else Other t)
          (meant.before (meant.element_by u (arg_of def args u)) us_are)) plain
          ∙ ap (λ (o : Option (List Marked)). meant.before (Other t) (meant.before (meant.element_by u o) us_are)) is
          ∙ ap (λ (b : Bool). if b then Quoted t arg ∷ us_are else Other t ∷ Param u arg ∷ us_are) hash;
      paste = λ e. absurd (true≢false (sym e ∙ plain));
      plainly = λ _. refl;
    }

-- no parameter stands first
abbrev begins_param : List Element → Bool
begins_param (Param u arg ∷ es) = true
begins_param _ = false

other_kept : (t : OutToken) (es : List Element) → (is_hash t && begins_param es) ≡ false
    → meant.before (Other t) es ≡ Other t ∷ es
other_kept t [] e = refl
other_kept t (Paste u ∷ es) e = refl
other_kept t (Quoted u arg ∷ es) e = refl
other_kept t (Other u ∷ es) e = refl
other_kept t (Param u arg ∷ es) e =
    ap (λ (b : Bool). if b then Quoted t arg ∷ es else Other t ∷ Param u arg ∷ es) (sym (and-true (is_hash t)) ∙ e)

other_first : (u : OutToken) (es : List Element) → begins_param (meant.before (Other u) es) ≡ false
other_first u [] = refl
other_first u (Paste v ∷ es) = refl
other_first u (Quoted v arg ∷ es) = refl
other_first u (Other v ∷ es) = refl
other_first u (Param v arg ∷ es) =
    if_cases (λ (all : List Element). begins_param all ≡ false) (is_hash u) _ _ (λ _. refl) (λ _. refl)

no_param : (u : OutToken) (es : List Element) → begins_param (meant.before (meant.element_by u None) es) ≡ false
no_param u es =
    if_cases (λ (e : Element). begins_param (meant.before e es) ≡ false) (is_paste u) (Paste u) (Other u)
    (λ _. refl) (λ _. other_first u es)

none_begins : (def : MacroDef) (args : List (List Marked)) (ts : List OutToken) → build.first_arg def args ts ≡ None
    → begins_param (elements def args ts) ≡ false
none_begins def args [] none = refl
none_begins def args (u ∷ us) none =
    ap (λ (o : Option (List Marked)). begins_param (meant.before (meant.element_by u o) (elements def args us))) none
    ∙ no_param u (elements def args us)

other_front : (def : MacroDef) (args : List (List Marked)) (t : OutToken) (ts : List OutToken) → is_paste t ≡ false
    → arg_of def args t ≡ None → (is_hash t && begins_param (elements def args ts)) ≡ false
    → operand def args t ts ≡ build.plain_operand t → Front def args t ts
other_front def args t ts plain none kept is =
    record {
      element = Other t;
      operand_is = is;
      elements_are =
          ap (λ (o : Option (List Marked)). meant.before (meant.element_by t o) (elements def args ts)) none
          ∙ ap (λ (b : Bool). meant.before (if b then Paste t else Other t) (elements def args ts)) plain
          ∙ other_kept t (elements def args ts) kept;
      paste = λ e. absurd (true≢false (sym e ∙ plain));
      plainly = λ _. refl;
    }

hash_front : (def : MacroDef) (args : List (List Marked)) (t : OutToken) (ts : List OutToken) → is_paste t ≡ false
    → is_hash t ≡ true → (o : Option (List Marked)) → build.first_arg def args ts ≡ o → Front def args t ts
unfolding operand
hash_front def args t ts plain hash None none =
    other_front def args t ts plain (no_arg def args t (hash_ident t hash))
    (and_right (is_hash t) (begins_param (elements def args ts)) (none_begins def args ts none))
    (ap (λ (b : Bool). if b
    then build.operand_by build.string_operand t (build.first_arg def args ts)
    else build.operand_by build.argument_operand t (arg_of def args t)) hash
    ∙ ap (build.operand_by build.string_operand t) none)
hash_front def args t ts plain hash (Some arg) some = quoted_front def args t ts arg plain hash some

token_front : (def : MacroDef) (args : List (List Marked)) (t : OutToken) (ts : List OutToken) → is_paste t ≡ false
    → is_hash t ≡ false → (o : Option (List Marked)) → arg_of def args t ≡ o → Front def args t ts
unfolding operand
token_front def args t ts plain no_hash None none =
    other_front def args t ts plain none (and_left (is_hash t) (begins_param (elements def args ts)) no_hash)
    (ap (λ (b : Bool). if b
    then build.operand_by build.string_operand t (build.first_arg def args ts)
    else build.operand_by build.argument_operand t (arg_of def args t)) no_hash
    ∙ ap (build.operand_by build.argument_operand t) none)
token_front def args t ts plain no_hash (Some arg) some = param_front def args t ts arg some

pub front_of : (def : MacroDef) (args : List (List Marked)) (t : OutToken) (ts : List OutToken) → Front def args t ts
front_of def args t ts =
    ⊎_elim (paste_front def args t ts)
    (λ plain. ⊎_elim
    (λ hash. hash_front def args t ts plain hash (build.first_arg def args ts) refl)
    (λ no_hash. token_front def args t ts plain no_hash (arg_of def args t) refl)
    (cases_Bool (is_hash t)))
    (cases_Bool (is_paste t))

-- `##` stands next in the list where it does among its elements
first_alike : (e : Element) (es more : List Element) → meant.paste_follows (e ∷ es) ≡ meant.paste_follows (e ∷ more)
first_alike (Paste t) es more = refl
first_alike (Quoted t arg) es more = refl
first_alike (Param t arg) es more = refl
first_alike (Other t) es more = refl

pub paste_next : (def : MacroDef) (args : List (List Marked)) (ts : List OutToken)
    → begins_paste ts ≡ meant.paste_follows (elements def args ts)
paste_next def args [] = refl
paste_next def args (t ∷ ts) =
    let front = front_of def args t ts in
    let more : List Element = elements def args (drop (operand_of front.element).more ts) in
    ⊎_elim
    (λ e. e ∙ sym (ap (λ (x : Element). meant.paste_follows (x ∷ more)) (front.paste e)))
    (λ e. e ∙ sym (first_alike front.element more [] ∙ front.plainly e))
    (cases_Bool (is_paste t))
    ∙ sym (ap meant.paste_follows front.elements_are)
