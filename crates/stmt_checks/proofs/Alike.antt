-- What an item means doesn't depend on where its tokens stand.
use Rattle.std.proofs.Common.{◌≡◌, refl, sym, ap, ◌∙◌, subst, ℕ, ◌+◌, ◌==◌, nat_lt, Bool, true, false, not, ◌&&◌, ◌||◌, List, [], ◌∷◌, ◌++◌, drop, take, length, map, if◌then◌else◌}
use Rattle.std.proofs.lemmas.List.{drop-map, length-map, map-append, take-map}
use Rattle.asking.specs.LookUps.{result_of}
use Rattle.earlier_items.specs.Before.{before}
use Rattle.item_cut.specs.Items.{assigns, body_at, body_from, depth_after, depth_from, has_equals, last_is, opens_body, somewhere}
use Rattle.item_cut.specs.Marks.{is_close_paren, is_equals, is_open_brace}
use Rattle.scope_tables.specs.declared.meanings.BodyMeaning.{BodyMeaning}
use Rattle.scope_tables.specs.declared.meanings.HeadMeaning.{HeadMeaning}
use Rattle.tok_data.specs.declared.tokens.OutToken.{OutToken}
use Rattle.tok_data.specs.declared.tokens.Spelt.TheVariants.{Made}
use Rattle.type_data.specs.declared.names.ItemName.{ItemName}
use Rattle.stmt_checks.specs.Folds.{bodies, body, body_of, body_tokens, has_body, head, head_of, head_tokens, is_checked, is_read}
use Rattle.stmt_checks.specs.Heads.{head_meaning}
use Rattle.stmt_checks.specs.Last.{AreAlike}
use Rattle.stmt_checks.specs.Meanings.{body_meaning, context}
use Rattle.item_readings.specs.Readings.{Reader}
use Rattle.elab_state.specs.Tokens.{bare, bare_tokens}

-- ---- where a body begins

depth_bare : (n : ℕ) (ts : List OutToken) → depth_from n (bare_tokens ts) ≡ depth_from n ts
depth_bare n [] = refl
depth_bare n (t ∷ ts) = depth_bare (depth_after n t.spelling) ts

last_bare : (test : List ℕ → Bool) (so_far : Bool) (ts : List OutToken) → last_is test so_far (bare_tokens ts) ≡ last_is test so_far ts
last_bare test so_far [] = refl
last_bare test so_far (t ∷ ts) = last_bare test (test t.spelling) ts

bare_then : (front : List OutToken) (t : OutToken) → bare_tokens (front ++ t ∷ []) ≡ bare_tokens front ++ bare t ∷ []
bare_then front t = map-append bare front (t ∷ [])

assigns_bare : (front : List OutToken) (text : List ℕ) → assigns (bare_tokens front) text ≡ assigns front text
assigns_bare front text = ap (λ d. is_equals text && d == 0) (depth_bare 0 front)

somewhere_bare : (front ts : List OutToken) → somewhere assigns (bare_tokens front) (bare_tokens ts) ≡ somewhere assigns front ts
somewhere_bare front [] = refl
somewhere_bare front (t ∷ ts) =
    ap (λ b. b || somewhere assigns (bare_tokens front ++ bare t ∷ []) (bare_tokens ts)) (assigns_bare front t.spelling)
    ∙ ap (λ us. assigns front t.spelling || somewhere assigns us (bare_tokens ts)) (sym (bare_then front t))
    ∙ ap (λ b. assigns front t.spelling || b) (somewhere_bare (front ++ t ∷ []) ts)

equals_bare : (front : List OutToken) → has_equals (bare_tokens front) ≡ has_equals front
equals_bare front = somewhere_bare [] front

opens_bare : (front : List OutToken) (text : List ℕ) → opens_body (bare_tokens front) text ≡ opens_body front text
opens_bare front text =
    ap (λ d. is_open_brace text && d == 0 && last_is is_close_paren false (bare_tokens front) && not (has_equals (bare_tokens front))) (depth_bare 0 front)
    ∙ ap (λ b. is_open_brace text && depth_from 0 front == 0 && b && not (has_equals (bare_tokens front))) (last_bare is_close_paren false front)
    ∙ ap (λ b. is_open_brace text && depth_from 0 front == 0 && last_is is_close_paren false front && not b) (equals_bare front)

body_bare : (front ts : List OutToken) → body_from (bare_tokens front) (bare_tokens ts) ≡ body_from front ts
body_bare front [] = length-map front bare
body_bare front (t ∷ ts) =
    ap (λ b. if b then length (bare_tokens front) else body_from (bare_tokens front ++ bare t ∷ []) (bare_tokens ts)) (opens_bare front t.spelling)
    ∙ ap (λ n. if opens_body front t.spelling then n else body_from (bare_tokens front ++ bare t ∷ []) (bare_tokens ts)) (length-map front bare)
    ∙ ap (λ us. if opens_body front t.spelling then length front else body_from us (bare_tokens ts)) (sym (bare_then front t))
    ∙ ap (λ n. if opens_body front t.spelling then length front else n) (body_bare (front ++ t ∷ []) ts)

at_alike : (ts us : List OutToken) → AreAlike ts us → body_at ts ≡ body_at us
at_alike ts us e = sym (body_bare [] ts) ∙ ap body_at e ∙ body_bare [] us

length_alike : (ts us : List OutToken) → AreAlike ts us → length ts ≡ length us
length_alike ts us e = sym (length-map ts bare) ∙ ap length e ∙ length-map us bare

-- ---- the parts of an item

heads_alike : (ts us : List OutToken) → AreAlike ts us → AreAlike (head_tokens ts) (head_tokens us)
heads_alike ts us e =
    sym (take-map bare (body_at ts + 1) ts) ∙ ap (λ xs. take (body_at ts + 1) xs) e ∙ ap (λ n. take (n + 1) (bare_tokens us)) (at_alike ts us e)
    ∙ take-map bare (body_at us + 1) us

bodies_alike : (ts us : List OutToken) → AreAlike ts us → AreAlike (body_tokens ts) (body_tokens us)
bodies_alike ts us e =
    sym (drop-map bare (body_at ts) ts) ∙ ap (λ xs. drop (body_at ts) xs) e ∙ ap (λ n. drop n (bare_tokens us)) (at_alike ts us e) ∙ drop-map bare (body_at us) us

-- ---- what they mean

head_of_alike : (r : Reader) (name : ItemName) (ts us : List OutToken) (hs : List HeadMeaning) → AreAlike ts us → head_of r name ts hs ≡ head_of r name us hs
head_of_alike r name ts us hs e = ap (λ xs. result_of (before hs) (head_meaning r (context name xs 0))) e

body_of_alike : (r : Reader) (name : ItemName) (ts us : List OutToken) (base : ℕ) (h : HeadMeaning) (hs : List HeadMeaning) → AreAlike ts us →
    body_of r name ts base h hs ≡ body_of r name us base h hs
body_of_alike r name ts us base h hs e = ap (λ xs. result_of (before hs) (body_meaning r (context name xs base) h)) e

pub head_alike : (r : Reader) (name : ItemName) (ts us : List OutToken) (hs : List HeadMeaning) → AreAlike (head_tokens ts) (head_tokens us) → head r name ts hs ≡ head r name us hs
head_alike r name ts us hs e = head_of_alike r name (head_tokens ts) (head_tokens us) hs e

pub whole_alike : (r : Reader) (name : ItemName) (ts us : List OutToken) (hs : List HeadMeaning) → AreAlike ts us → head r name ts hs ≡ head r name us hs
whole_alike r name ts us hs e = head_alike r name ts us hs (heads_alike ts us e)

has_alike : (ts us : List OutToken) → AreAlike ts us → has_body ts ≡ has_body us
has_alike ts us e = ap (λ n. nat_lt n (length ts)) (at_alike ts us e) ∙ ap (λ n. nat_lt (body_at us) n) (length_alike ts us e)

body_alike : (r : Reader) (ts us : List OutToken) (h : HeadMeaning) (hs : List HeadMeaning) → AreAlike ts us → body r ts h hs ≡ body r us h hs
body_alike r ts us h hs e =
    body_of_alike r h.item (body_tokens ts) (body_tokens us) (body_at ts) h hs (bodies_alike ts us e)
    ∙ ap (λ n. body_of r h.item (body_tokens us) n h hs) (at_alike ts us e)

pub all_bodies_alike : (r : Reader) (ts us : List OutToken) (h : HeadMeaning) (hs : List HeadMeaning) → AreAlike ts us → bodies r ts h hs ≡ bodies r us h hs
all_bodies_alike r ts us h hs e =
    ap (λ b. if b && is_read h then body r ts h hs ∷ [] else []) (has_alike ts us e)
    ∙ ap (λ b. if is_checked us h then b ∷ [] else []) (body_alike r ts us h hs e)

-- ---- one token after another

pub are_all : (ts us : List OutToken) → ts ≡ [] → us ≡ [] → AreAlike ts us
are_all ts us d e = ap bare_tokens (d ∙ sym e)

pub next_alike : {ts us more others : List OutToken} {t u : OutToken} → ts ≡ t ∷ more → us ≡ u ∷ others → t.kind ≡ u.kind → t.spelling ≡ u.spelling → AreAlike more others → AreAlike ts us
next_alike {ts} {us} {more} {others} {t} {u} d e k s alike =
    ap bare_tokens d ∙ (λ i. record { kind = k i; spelling = s i; space_before = false; spelt = Made; site = record { file = []; at = 0 } } ∷ alike i) ∙ ap bare_tokens (sym e)
