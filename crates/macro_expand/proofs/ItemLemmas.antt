-- What is built of a replacement list, where an operand without tokens is a placemarker.
use Rattle.std.proofs.Common.{◌≡◌, ℕ, Bool, true, false, ◌||◌, not, List, [], ◌∷◌, ◌++◌}
use Rattle.std.proofs.Common.{map, refl, ap, sym, ◌∙◌, if◌then◌else◌, Option}
use Rattle.std.proofs.lemmas.Bool.{true≢false}
use Rattle.std.proofs.Math.Bool.{or-false}
use Rattle.std.proofs.lemmas.List.{append-nil}
use Rattle.std.specs.Prelude.{Some, None, option_map}
use Rattle.tok_data.specs.declared.sources.TokId.{TokId}
use Rattle.tok_data.specs.declared.tokens.PpKind.{PpKind}
use Rattle.macro_expand.specs.declared.types.Marked.{Marked}
use Rattle.macro_expand.specs.declared.types.Progress.{Progress}
use Rattle.macro_expand.specs.declared.building.Building.{Building}
use Rattle.macro_expand.specs.Tokens.{spaced}
use Rattle.macro_expand.specs.Tokens.{last_of, with_first}
use Rattle.macro_expand.specs.Progress.{faulty}
use Rattle.macro_expand.specs.Pasting.{pasted, made_of, made_kind}
use Rattle.macro_expand.specs.Ties.Building as build
use Rattle.macro_expand.specs.Ties.Building.{joins}
use Rattle.macro_expand.specs.Substitution as meant
use Rattle.macro_expand.specs.Substitution.{Item, Token, Placemarker}
use Rattle.macro_expand.specs.Substitution.{Output, settled, items_of, spaced_if}
use Rattle.macro_expand.proofs.ListLemmas.{last_of_snoc}

-- what was made, without placemarkers; nothing is as one
abbrev pub ends_empty : Option (List Item × Item) → Bool
ends_empty None = true
ends_empty (Some (front, Placemarker space)) = true
ends_empty (Some (front, Token t)) = false

abbrev pub built : Bool → Output → Building
built space o = record {
  progress = o.progress;
  tokens = (settled space o.items).0;
  space = (settled space o.items).1;
  empty = ends_empty (last_of o.items);
  first = not (meant.is_begun o.items);
}

-- what is settled of two lists
abbrev joined : List Marked × Bool → List Item → List Marked × Bool
joined s is = (s.0 ++ (settled s.1 is).0, (settled s.1 is).1)

settled_append : (space : Bool) (is more : List Item) → settled space (is ++ more) ≡ joined (settled space is) more
settled_append space [] more = refl
settled_append space (Placemarker s ∷ is) more = settled_append (space || s) is more
settled_append space (Token t ∷ is) more =
    ap (λ (s : List Marked × Bool). (spaced_if space t ∷ s.0, s.1)) (settled_append false is more)

settled_made : (ts : List Marked) → settled false (map Token ts) ≡ (ts, false)
settled_made [] = refl
settled_made (t ∷ ts) = ap (λ (s : List Marked × Bool). (t ∷ s.0, s.1)) (settled_made ts)

settled_token : (space : Bool) (t : Marked) (ts : List Marked)
    → settled space (map Token (t ∷ ts)) ≡ (spaced_if space t ∷ ts, false)
settled_token space t ts = ap (λ (s : List Marked × Bool). (spaced_if space t ∷ s.0, s.1)) (settled_made ts)

spaced_or : (space more : Bool) (t : Marked) → spaced_if space (spaced more t) ≡ spaced (space || more) t
spaced_or true more t = refl
spaced_or false more t = refl

-- the last item
abbrev last_with : Item → Option (List Item × Item) → List Item × Item
last_with i None = ([], i)
last_with i (Some p) = (i ∷ p.0, p.1)

last_is : (i : Item) (o : Option (List Item × Item)) → with_first i o ≡ Some (last_with i o)
last_is i None = refl
last_is i (Some p) = refl

last_append : (is : List Item) (i : Item) (more : List Item) (p : List Item × Item) → last_of (i ∷ more) ≡ Some p
    → last_of (is ++ i ∷ more) ≡ Some (is ++ p.0, p.1)
last_append [] i more p last = last
last_append (j ∷ is) i more p last = ap (with_first j) (last_append is i more p last)

ends_alike : (front other : List Item) (i : Item) → ends_empty (Some (front, i)) ≡ ends_empty (Some (other, i))
ends_alike front other (Token t) = refl
ends_alike front other (Placemarker space) = refl

ends_append : (is : List Item) (i : Item) (more : List Item)
    → ends_empty (last_of (is ++ i ∷ more)) ≡ ends_empty (last_of (i ∷ more))
ends_append is i more =
    let p : List Item × Item = last_with i (last_of more) in
    let some : last_of (i ∷ more) ≡ Some p = last_is i (last_of more) in
    ap ends_empty (last_append is i more p some) ∙ ends_alike (is ++ p.0) p.0 p.1 ∙ sym (ap ends_empty some)

ends_behind : (i : Item) (o : Option (List Item × Item)) → ends_empty o ≡ false → ends_empty (with_first i o) ≡ false
ends_behind i None e = absurd (true≢false e)
ends_behind i (Some (front, Token t)) e = refl
ends_behind i (Some (front, Placemarker space)) e = absurd (true≢false e)

ends_made : (t : Marked) (ts : List Marked) → ends_empty (last_of (map Token (t ∷ ts))) ≡ false
ends_made t [] = refl
ends_made t (u ∷ us) = ends_behind (Token t) (last_of (map Token (u ∷ us))) (ends_made u us)

-- a list from its last item
abbrev list_of : Option (List Item × Item) → List Item
list_of None = []
list_of (Some p) = p.0 ++ p.1 ∷ []

list_behind : (i : Item) (o : Option (List Item × Item)) → i ∷ list_of o ≡ list_of (with_first i o)
list_behind i None = refl
list_behind i (Some p) = refl

list_is : (is : List Item) → is ≡ list_of (last_of is)
list_is [] = refl
list_is (i ∷ is) = ap (λ (more : List Item). i ∷ more) (list_is is) ∙ list_behind i (last_of is)

begun_append : (is : List Item) (i : Item) (more : List Item) → meant.is_begun (is ++ i ∷ more) ≡ true
begun_append [] i more = refl
begun_append (j ∷ is) i more = refl

-- what is built where something stands at the end
abbrev pub output : Progress → List Item → Output
output p is = record { progress = p; items = is }

abbrev building : Progress → List Marked × Bool → Bool → Bool → Building
building p s empty first = record { progress = p; tokens = s.0; space = s.1; empty = empty; first = first }

built_is : (sp : Bool) (p : Progress) (front : List Item) (i : Item) (more : List Item) (s : List Marked × Bool)
    (empty : Bool) → settled (settled sp front).1 (i ∷ more) ≡ s → ends_empty (last_of (i ∷ more)) ≡ empty
    → built sp (output p (front ++ i ∷ more)) ≡ building p ((settled sp front).0 ++ s.0, s.1) empty false
built_is sp p front i more s empty settled_is ends =
    ap (λ (x : List Marked × Bool). building p x (ends_empty (last_of (front ++ i ∷ more)))
    (not (meant.is_begun (front ++ i ∷ more)))) (settled_append sp front (i ∷ more))
    ∙ ap (λ (x : List Marked × Bool). building p ((settled sp front).0 ++ x.0, x.1)
    (ends_empty (last_of (front ++ i ∷ more))) (not (meant.is_begun (front ++ i ∷ more)))) settled_is
    ∙ ap (λ (b : Bool). building p ((settled sp front).0 ++ s.0, s.1) b (not (meant.is_begun (front ++ i ∷ more))))
    (ends_append front i more ∙ ends)
    ∙ ap (λ (b : Bool). building p ((settled sp front).0 ++ s.0, s.1) empty (not b)) (begun_append front i more)

made_is : (sp : Bool) (p : Progress) (front : List Item) (t : Marked) (ts : List Marked)
    → built sp (output p (front ++ map Token (t ∷ ts)))
    ≡ building p ((settled sp front).0 ++ spaced_if (settled sp front).1 t ∷ ts, false) false false
made_is sp p front t ts =
    built_is sp p front (Token t) (map Token ts) (spaced_if (settled sp front).1 t ∷ ts, false) false
    (settled_token (settled sp front).1 t ts) (ends_made t ts)

marked_is : (sp : Bool) (p : Progress) (front : List Item) (space : Bool)
    → built sp (output p (front ++ Placemarker space ∷ []))
    ≡ building p ((settled sp front).0, (settled sp front).1 || space) true false
marked_is sp p front space =
    built_is sp p front (Placemarker space) [] ([], (settled sp front).1 || space) true refl refl
    ∙ ap (λ (ts : List Marked). building p (ts, (settled sp front).1 || space) true false)
    (append-nil (settled sp front).0)

-- tokens at the end
pub puts_is : (sp space : Bool) (p : Progress) (front : List Item) (ts : List Marked) (before empty first : Bool)
    → build.puts ((settled sp front).1 || space) ts (building p ((settled sp front).0, before) empty first)
    ≡ built sp (output p (front ++ items_of space ts))
puts_is sp space p front [] before empty first = sym (marked_is sp p front space)
puts_is sp space p front (t ∷ ts) before empty first =
    ap (λ (u : Marked). building p ((settled sp front).0 ++ u ∷ ts, false) false false)
    (sym (spaced_or (settled sp front).1 space t))
    ∙ sym (made_is sp p front (spaced space t) ts)

-- `##` makes the same of a token before which white space passed
made_spaced : (space : Bool) (l r : Marked) (o : Option PpKind)
    → option_map (made_of (spaced_if space l) r) o ≡ option_map (spaced_if space) (option_map (made_of l r) o)
made_spaced true l r None = refl
made_spaced true l r (Some kind) = refl
made_spaced false l r None = refl
made_spaced false l r (Some kind) = refl

spelling_spaced : (space : Bool) (l : Marked) → (spaced_if space l).token.spelling ≡ l.token.spelling
spelling_spaced true l = refl
spelling_spaced false l = refl

pasted_spaced : (space : Bool) (l r : Marked) → pasted (spaced_if space l) r ≡ option_map (spaced_if space) (pasted l r)
unfolding pasted
pasted_spaced space l r =
    ap (λ (text : List ℕ). option_map (made_of (spaced_if space l) r) (made_kind (text ++ r.token.spelling)))
    (spelling_spaced space l)
    ∙ made_spaced space l r (made_kind (l.token.spelling ++ r.token.spelling))

-- the right operand of `##`
pasted_by_is : (sp : Bool) (site : TokId) (p : Progress) (front : List Item) (l r : Marked) (rs : List Marked)
    (o : Option Marked) (b : Building) → b ≡ building p ((settled sp front).0 ++ spaced_if (settled sp front).1 l ∷ [], false) false false
    → build.pasted_by site (settled sp front).0 (spaced_if (settled sp front).1 l) r rs
    (option_map (spaced_if (settled sp front).1) o) b
    ≡ built sp (meant.pasted_or site front l r rs (output p (front ++ Token l ∷ [])) o)
pasted_by_is sp site p front l r rs None b is =
    ap (build.pasted_by site (settled sp front).0 (spaced_if (settled sp front).1 l) r rs None) is
    ∙ sym (made_is sp (faulty 206 site [] p) front l (r ∷ rs))
pasted_by_is sp site p front l r rs (Some t) b is =
    ap (build.pasted_by site (settled sp front).0 (spaced_if (settled sp front).1 l) r rs
    (Some (spaced_if (settled sp front).1 t))) is
    ∙ sym (made_is sp p front t rs)

glued_is : (sp : Bool) (site : TokId) (p : Progress) (front : List Item) (l : Marked) (ts : List Marked)
    → build.glued site ts (built sp (output p (front ++ Token l ∷ [])))
    ≡ built sp (meant.pasted_to site front l ts (output p (front ++ Token l ∷ [])))
glued_is sp site p front l [] = refl
glued_is sp site p front l (r ∷ rs) =
    let before : List Marked = (settled sp front).0 in
    let left : Marked = spaced_if (settled sp front).1 l in
    let o : Output = output p (front ++ Token l ∷ []) in
    let b : Building = built sp o in
    let b_is : b ≡ building p (before ++ left ∷ [], false) false false = made_is sp p front l [] in
    ap (λ (last : Option (List Marked × Marked)). build.pasted_to site r rs last b)
    (ap (λ (x : Building). last_of x.tokens) b_is ∙ last_of_snoc before left)
    ∙ ap (λ (made : Option Marked). build.pasted_by site before left r rs made b)
    (pasted_spaced (settled sp front).1 l r)
    ∙ pasted_by_is sp site p front l r rs (pasted l r) b b_is

joins_begun : (sp : Bool) (site : TokId) (p : Progress) (ts : List Marked)
    → joins site ts (built sp (output p [])) ≡ built sp (output p (items_of false ts))
unfolding joins
joins_begun sp site p ts =
    ap (λ (space : Bool). build.puts space ts (built sp (output p []))) (sym (or-false sp))
    ∙ puts_is sp false p [] ts sp true true

joins_marked : (sp : Bool) (site : TokId) (p : Progress) (front : List Item) (space : Bool) (ts : List Marked)
    → joins site ts (built sp (output p (front ++ Placemarker space ∷ [])))
    ≡ built sp (output p (front ++ items_of space ts))
unfolding joins
joins_marked sp site p front space ts =
    ap (joins site ts) (marked_is sp p front space)
    ∙ puts_is sp space p front ts ((settled sp front).1 || space) true false

joins_made : (sp : Bool) (site : TokId) (p : Progress) (front : List Item) (l : Marked) (ts : List Marked)
    → joins site ts (built sp (output p (front ++ Token l ∷ [])))
    ≡ built sp (meant.pasted_to site front l ts (output p (front ++ Token l ∷ [])))
unfolding joins
joins_made sp site p front l ts =
    ap (λ (empty : Bool). if empty
    then build.puts (built sp (output p (front ++ Token l ∷ []))).space ts (built sp (output p (front ++ Token l ∷ [])))
    else build.glued site ts (built sp (output p (front ++ Token l ∷ [])))) (ends_append front (Token l) [])
    ∙ glued_is sp site p front l ts

joins_by : (sp : Bool) (site : TokId) (p : Progress) (ts : List Marked) (o : Option (List Item × Item))
    → joins site ts (built sp (output p (list_of o)))
    ≡ built sp (meant.pasted_behind site ts (output p (list_of o)) o)
joins_by sp site p ts None = joins_begun sp site p ts
joins_by sp site p ts (Some (front, Placemarker space)) = joins_marked sp site p front space ts
joins_by sp site p ts (Some (front, Token l)) = joins_made sp site p front l ts

pub joins_is : (sp : Bool) (site : TokId) (p : Progress) (ts : List Marked) (is : List Item)
    → joins site ts (built sp (output p is)) ≡ built sp (meant.pasted_behind site ts (output p is) (last_of is))
joins_is sp site p ts is =
    ap (λ (all : List Item). joins site ts (built sp (output p all))) (list_is is)
    ∙ joins_by sp site p ts (last_of is)
    ∙ ap (λ (all : List Item). built sp (meant.pasted_behind site ts (output p all) (last_of is))) (sym (list_is is))
