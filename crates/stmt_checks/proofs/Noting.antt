-- What the items in front say of the names of a unit's own items, noted one item after another.
use Rattle.std.proofs.Common.{◌≡◌, sym, ap, ◌∙◌, subst, false, List, [], ◌∷◌, None}
use Rattle.earlier_items.specs.Before.{AreBefore, Tells, before, said}
use Rattle.earlier_items.specs.Differences.{AreSaid, Asks, IsFurther, has_question}
use Rattle.earlier_items.specs.declared.differences.Changed.{Changed}
use Rattle.elab_state.specs.Tokens.{bare_tokens}
use Rattle.elab_state.specs.Wants.{Told}
use Rattle.elab_state.specs.declared.wants.Wanted.{Wanted}
use Rattle.scope_tables.specs.declared.meanings.HeadMeaning.{HeadMeaning}
use Rattle.tok_data.specs.declared.tokens.OutToken.{OutToken}
use Rattle.unit_items.specs.declared.items.Item.{Item}
use Rattle.stmt_checks.specs.Firm.{SaysNothing}
use Rattle.stmt_checks.specs.Folds.{body_tokens, head_tokens, own}
use Rattle.stmt_checks.specs.Taking.{AllRead, ItemRead}

pub further_again : {known names between names' : Told} {changed some changed' : Changed} → IsFurther known names between changed some → IsFurther known between names' some changed' →
    IsFurther known names names' changed changed'
further_again a b = record { stays = λ q h. b.stays q (a.stays q h); less = λ q h. a.less q (b.less q h) }

pub not_further : (known names : Told) (changed : Changed) → IsFurther known names names changed changed
not_further known names changed = record { stays = λ q h. h; less = λ q h. h }

module _ (tells : Tells) (was : Told) (hs : List HeadMeaning) (are : AreBefore hs tells) (ts : List OutToken) where
  -- its head first, then its body
  pub item_read : {between names : Told} {some changed : Changed} → ((q : Wanted) → Asks (bare_tokens (head_tokens ts)) q → said between q ≡ said tells.known q) →
      ((q : Wanted) → Asks (bare_tokens (head_tokens ts)) q → has_question some q ≡ false → said was q ≡ said tells.known q) → IsFurther tells.known between names some changed →
      ((q : Wanted) → Asks (bare_tokens (body_tokens ts)) q → said names q ≡ said tells.known q) →
      ((q : Wanted) → Asks (bare_tokens (body_tokens ts)) q → has_question changed q ≡ false → said was q ≡ said tells.known q) → ItemRead was names hs changed ts
  item_read head left further body body_left = record {
    head_named = λ q asks. further.stays q (head q asks) ∙ are.said q;
    body_named = λ q asks. body q asks ∙ are.said q;
    head_left = λ q asks n. left q asks (further.less q n) ∙ are.said q;
    body_left = λ q asks n. body_left q asks n ∙ are.said q;
  }

  pub item_stays : {names names' : Told} {changed changed' : Changed} → IsFurther tells.known names names' changed changed' → ItemRead was names hs changed ts → ItemRead was names' hs changed' ts
  item_stays further read = record {
    head_named = λ q asks. further.stays q (read.head_named q asks ∙ sym (are.said q)) ∙ are.said q;
    body_named = λ q asks. further.stays q (read.body_named q asks ∙ sym (are.said q)) ∙ are.said q;
    head_left = λ q asks n. read.head_left q asks (further.less q n);
    body_left = λ q asks n. read.body_left q asks (further.less q n);
  }

-- of these items, all but the rest were noted
pub record NotingItems (tells : Tells) (was : Told) (tokens : List OutToken) (items rest : List Item) (names : Told) (changed : Changed) : Type 0 where
  pub noted : AreSaid tells.known names
  pub read : (hs : List HeadMeaning) → AreBefore hs tells → (n : Told) → (c : Changed) → IsFurther tells.known names n changed c → AllRead was n hs c tokens rest → AllRead was n hs c tokens items

pub items_begin : (tells : Tells) (was : Told) (tokens : List OutToken) (items : List Item) (names : Told) (changed : Changed) → AreSaid tells.known names →
    NotingItems tells was tokens items items names changed
items_begin tells was tokens items names changed noted = record { noted = noted; read = λ hs are n c further all. all }

pub items_turn : {tells : Tells} {was : Told} {tokens : List OutToken} {items rest behind : List Item} {i : Item} {names names' : Told} {changed changed' : Changed} →
    NotingItems tells was tokens items rest names changed → rest ≡ i ∷ behind → AreSaid tells.known names' → IsFurther tells.known names names' changed changed' →
    ((hs : List HeadMeaning) → AreBefore hs tells → ItemRead was names' hs changed' (own tokens i)) → NotingItems tells was tokens items behind names' changed'
items_turn {tells} {was} {tokens} {items} {rest} {behind} {i} so_far is noted step read = record {
  noted = noted;
  read = λ hs are n c further all.
      so_far.read hs are n c (further_again step further)
      (subst (λ xs. AllRead was n hs c tokens xs) (sym is) (item_stays tells was hs are (own tokens i) further (read hs are), all));
}

pub items_end : {tells : Tells} {was : Told} {tokens : List OutToken} {items rest : List Item} {names : Told} {changed : Changed} → NotingItems tells was tokens items rest names changed → rest ≡ [] →
    (hs : List HeadMeaning) → AreBefore hs tells → AllRead was names hs changed tokens items
items_end {tells} {was} {tokens} {items} {rest} {names} {changed} so_far is hs are =
    so_far.read hs are names changed (not_further tells.known names changed) (subst (λ xs. AllRead was names hs changed tokens xs) (sym is) tt)

-- ---- where none stand in front

pub nothing_read : (was names : Told) (changed : Changed) (hs : List HeadMeaning) → SaysNothing was → SaysNothing names → ((q : Wanted) → before hs q ≡ None) → (tokens : List OutToken)
    (items : List Item) → AllRead was names hs changed tokens items
nothing_read was names changed hs w n none tokens [] = tt
nothing_read was names changed hs w n none tokens (i ∷ is) = (
  record {
    head_named = λ q asks. n q ∙ sym (none q);
    body_named = λ q asks. n q ∙ sym (none q);
    head_left = λ q asks left. w q ∙ sym (none q);
    body_left = λ q asks left. w q ∙ sym (none q);
  },
  nothing_read was names changed hs w n none tokens is,
)

-- what says the same as no items do says nothing
pub none_before : (tells : Tells) (hs : List HeadMeaning) → AreBefore [] tells → AreBefore hs tells → (q : Wanted) → before hs q ≡ None
none_before tells hs none are q = sym (are.said q) ∙ none.said q

pub new_says_nothing : (names : Told) → names ≡ record { entries = []; others = None } → SaysNothing names
unfolding said
new_says_nothing names e q = ap (λ n. said n q) e
