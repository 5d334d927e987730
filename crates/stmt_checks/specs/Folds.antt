-- What a unit means by its output tokens (ISO C11 5.1.1.1, 6.9), without what its directives show: its items in their order, each by what the heads in
-- front of it declare.
use Rattle.std.specs.Prelude.{ℕ, ◌+◌, ◌-◌, ◌==◌, ◌&&◌, ◌||◌, Bool, not, nat_lt, List, [], ◌∷◌, ◌++◌, drop, take, length, if◌then◌else◌}
use Rattle.std.specs.List.{list_any}
use Rattle.asking.specs.LookUps.{result_of}
use Rattle.earlier_items.specs.Before.{before}
use Rattle.elab_state.specs.Tokens.{bare_tokens}
use Rattle.item_cut.specs.Items.{body_at}
use Rattle.item_readings.specs.Readings.{Reader}
use Rattle.scope_tables.specs.declared.meanings.BodyMeaning.{BodyMeaning}
use Rattle.scope_tables.specs.declared.meanings.HeadMeaning.{HeadMeaning}
use Rattle.scope_tables.specs.declared.units.UnitMeaning.{UnitMeaning}
use Rattle.tok_data.specs.declared.tokens.OutToken.{OutToken}
use Rattle.type_data.specs.declared.judged.Fault.{Fault}
use Rattle.type_data.specs.declared.names.ItemName.{ItemName}
use Rattle.unit_items.specs.Items.{items_of}
use Rattle.unit_items.specs.declared.items.Item.{Item}
use Rattle.unit_meaning.specs.Meanings.{meaning}
use Rattle.unit_meaning.specs.Sites.{Entry}
use Rattle.stmt_checks.specs.Heads.{head_meaning}
use Rattle.stmt_checks.specs.Meanings.{body_meaning, context}

-- ---- the tokens of an item, those of its head up to and with the `{` of a body, and those of the body

abbrev pub own : List OutToken → Item → List OutToken
own tokens item = take (item.end - item.start) (drop item.start tokens)

abbrev pub head_tokens : List OutToken → List OutToken
head_tokens ts = take (body_at ts + 1) ts

abbrev pub body_tokens : List OutToken → List OutToken
body_tokens ts = drop (body_at ts) ts

-- ---- its head, and its body where it has one behind a head that was read, whatever stands round its tokens and wherever they are spelt

abbrev pub head_of : Reader → ItemName → List OutToken → List HeadMeaning → HeadMeaning
head_of r name ts hs = result_of (before hs) (head_meaning r (context name (bare_tokens ts) 0))

abbrev pub body_of : Reader → ItemName → List OutToken → ℕ → HeadMeaning → List HeadMeaning → BodyMeaning
body_of r name ts base h hs = result_of (before hs) (body_meaning r (context name (bare_tokens ts) base) h)

abbrev pub head : Reader → ItemName → List OutToken → List HeadMeaning → HeadMeaning
head r name ts hs = head_of r name (head_tokens ts) hs

abbrev pub body : Reader → List OutToken → HeadMeaning → List HeadMeaning → BodyMeaning
body r ts h hs = body_of r h.item (body_tokens ts) (body_at ts) h hs

-- 301 and 303, and 302 of a `;` alone
abbrev pub is_syntax : Fault → Bool
is_syntax f = f.rule == 301 || (f.rule == 302 || f.rule == 303)

unfoldable pub is_read : HeadMeaning → Bool
is_read h = not (list_any is_syntax h.faults)

abbrev pub has_body : List OutToken → Bool
has_body ts = nat_lt (body_at ts) (length ts)

abbrev pub is_checked : List OutToken → HeadMeaning → Bool
is_checked ts h = has_body ts && is_read h

abbrev pub bodies : Reader → List OutToken → HeadMeaning → List HeadMeaning → List BodyMeaning
bodies r ts h hs = if is_checked ts h then body r ts h hs ∷ [] else []

-- ---- one item after another

pub record Folded : Type 0 where
  pub heads : List HeadMeaning
  pub bodies : List BodyMeaning

abbrev pub with_bodies : Reader → List OutToken → HeadMeaning → List HeadMeaning → List BodyMeaning → List BodyMeaning
with_bodies r ts h hs bs = bs ++ bodies r ts h hs

abbrev pub with_head : Reader → List OutToken → HeadMeaning → Folded → Folded
with_head r ts h a = record { heads = a.heads ++ h ∷ []; bodies = with_bodies r ts h a.heads a.bodies }

abbrev pub with_item : Reader → List OutToken → Item → Folded → Folded
with_item r tokens item a = with_head r (own tokens item) (head r item.name (own tokens item) a.heads) a

abbrev pub all_items : Reader → List OutToken → Folded → List Item → Folded
all_items r tokens a [] = a
all_items r tokens a (i ∷ is) = all_items r tokens (with_item r tokens i a) is

abbrev pub nothing : Folded
nothing = record { heads = []; bodies = [] }

abbrev pub folded : Reader → List OutToken → Folded
folded r tokens = all_items r tokens nothing (items_of tokens)

abbrev pub unit_meaning : Reader → List OutToken → List Entry → UnitMeaning
unit_meaning r tokens entered = meaning (record { tokens = tokens; items = items_of tokens }) entered (folded r tokens).heads (folded r tokens).bodies
