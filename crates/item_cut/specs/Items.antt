-- The items of a unit: its external declarations (ISO C11 6.9), as far as brackets, `;` and bodies tell them.
use Rattle.std.specs.Prelude.{ℕ, Bool, false, not, ◌&&◌, ◌||◌, ◌==◌, ◌+◌, ◌-◌, List, [], ◌∷◌, ◌++◌, length}
use Rattle.std.specs.Prelude.{if◌then◌else◌}
use Rattle.tok_data.specs.declared.tokens.OutToken.{OutToken}
use Rattle.item_cut.specs.Marks.{is_opening, is_closing, is_open_brace, is_close_brace, is_close_paren, is_semicolon, is_equals}

-- opening brackets less closing ones, and never below 0
unfoldable pub depth_after : ℕ → List ℕ → ℕ
depth_after depth text = if is_opening text then depth + 1 else (if is_closing text then depth - 1 else depth)

abbrev pub depth_from : ℕ → List OutToken → ℕ
depth_from start [] = start
depth_from start (t ∷ ts) = depth_from (depth_after start t.spelling) ts

-- behind the tokens of a front of an item
abbrev pub depth : List OutToken → ℕ
depth = depth_from 0

-- some token meets the test, which sees the tokens before it too
abbrev pub somewhere : (List OutToken → List ℕ → Bool) → List OutToken → List OutToken → Bool
somewhere test before [] = false
somewhere test before (t ∷ ts) = test before t.spelling || somewhere test (before ++ t ∷ []) ts

-- the last token meets the test; `so_far` says it of the token before these
abbrev pub last_is : (List ℕ → Bool) → Bool → List OutToken → Bool
last_is test so_far [] = so_far
last_is test so_far (t ∷ ts) = last_is test (test t.spelling) ts

-- an `=` at depth 0
abbrev pub assigns : List OutToken → List ℕ → Bool
assigns before text = is_equals text && depth before == 0

abbrev pub has_equals : List OutToken → Bool
has_equals = somewhere assigns []

-- a `{` at depth 0 behind a `)`, with no `=` at depth 0 before it
abbrev pub opens_body : List OutToken → List ℕ → Bool
opens_body before text =
    is_open_brace text && depth before == 0 && last_is is_close_paren false before && not (has_equals before)

abbrev pub has_body : List OutToken → Bool
has_body = somewhere opens_body []

-- these tokens are a whole item: they end in a `;` at depth 0, or in the `}` that ends a body of theirs
abbrev pub is_item : List OutToken → Bool
is_item item =
    depth item == 0
    && (last_is is_semicolon false item || last_is is_close_brace false item && has_body item)

-- an item is the shortest front that is a whole one, and so with what is left; a rest that has none is one item. Each
-- is the number of its first token and the number behind its last; `front` are the tokens from `start` on
abbrev pub items_from : ℕ → List OutToken → List OutToken → List (ℕ × ℕ)
items_from start front [] = if length front == 0 then [] else (start, start + length front) ∷ []
items_from start front (t ∷ ts) =
    let item : List OutToken = front ++ t ∷ [] in
    if is_item item then
    (start, start + length item) ∷ items_from (start + length item) [] ts
    else items_from start item ts

abbrev pub items : List OutToken → List (ℕ × ℕ)
items = items_from 0 []

-- the number of the `{` that opens the body; where none does, how many tokens there are
abbrev pub body_from : List OutToken → List OutToken → ℕ
body_from front [] = length front
body_from front (t ∷ ts) = if opens_body front t.spelling then length front else body_from (front ++ t ∷ []) ts

abbrev pub body_at : List OutToken → ℕ
body_at = body_from []
