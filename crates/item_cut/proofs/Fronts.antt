-- One more token on the front of an item.
use Rattle.std.proofs.Common.{append-nil, append_assoc, ◌≡◌, refl, ap, sym, ◌∙◌, ℕ, Bool, true, false, ◌&&◌, ◌||◌, ◌==◌, List, [], ◌∷◌, ◌++◌}
use Rattle.tok_data.specs.declared.tokens.OutToken.{OutToken}
use Rattle.item_cut.specs.Items.{depth, depth_from, depth_after, somewhere, last_is, has_body, is_item, assigns, opens_body}
use Rattle.item_cut.specs.Marks.{is_close_paren, is_semicolon, is_close_brace}
use Rattle.item_cut.specs.Progress.{progress_of, after, ends, opens}

pub depth_on : (start : ℕ) → (ts : List OutToken) → (t : OutToken)
    → depth_from start (ts ++ t ∷ []) ≡ depth_after (depth_from start ts) t.spelling
depth_on start [] t = refl
depth_on start (u ∷ us) t = depth_on (depth_after start u.spelling) us t

pub last_on : (test : List ℕ → Bool) → (so_far : Bool) → (ts : List OutToken) → (t : OutToken)
    → last_is test so_far (ts ++ t ∷ []) ≡ test t.spelling
last_on test so_far [] t = refl
last_on test so_far (u ∷ us) t = last_on test (test u.spelling) us t

or_nil : (b : Bool) → (b || false) ≡ b
or_nil true = refl
or_nil false = refl

or_assoc : (a b c : Bool) → (a || (b || c)) ≡ (a || b || c)
or_assoc true b c = refl
or_assoc false b c = refl

pub some_on : (test : List OutToken → List ℕ → Bool) → (before ts : List OutToken) → (t : OutToken)
    → somewhere test before (ts ++ t ∷ []) ≡ (somewhere test before ts || test (before ++ ts) t.spelling)
some_on test before [] t = or_nil (test before t.spelling) ∙ ap (λ b. test b t.spelling) (sym (append-nil before))
some_on test before (u ∷ us) t =
    ap (λ b. test before u.spelling || b) (some_on test (before ++ u ∷ []) us t)
    ∙ or_assoc (test before u.spelling) (somewhere test (before ++ u ∷ []) us) (test (before ++ u ∷ [] ++ us) t.spelling)
    ∙ ap
    (λ b. test before u.spelling || somewhere test (before ++ u ∷ []) us || test b t.spelling)
    (append_assoc before (u ∷ []) us)

-- what is kept of a front follows from what was kept, token by token
pub progress_on : (front : List OutToken) → (t : OutToken)
    → progress_of (front ++ t ∷ []) ≡ after (progress_of front) t.spelling
unfolding progress_of after opens
progress_on front t = λ i. record {
  depth = depth_on 0 front t i;
  closed = last_on is_close_paren false front t i;
  assigned = some_on assigns [] front t i;
  body = some_on opens_body [] front t i;
}

pub ends_on : (front : List OutToken) → (t : OutToken)
    → is_item (front ++ t ∷ []) ≡ ends (progress_of (front ++ t ∷ [])) t.spelling
unfolding progress_of ends
ends_on front t =
    ap
    (λ b. depth (front ++ t ∷ []) == 0 && (b || last_is is_close_brace false (front ++ t ∷ []) && has_body (front ++ t ∷ [])))
    (last_on is_semicolon false front t)
    ∙ ap
    (λ b. depth (front ++ t ∷ []) == 0 && (is_semicolon t.spelling || b && has_body (front ++ t ∷ [])))
    (last_on is_close_brace false front t)
