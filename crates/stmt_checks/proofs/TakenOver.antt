-- What a unit takes over from the unit that was worked out last.
use Rattle.std.proofs.Common.{ℕ, ◌≡◌, ◌≤◌, refl, sym, ap, ◌∙◌, subst, Bool, true, false, List, [], ◌∷◌, ◌++◌, append_assoc, append-nil, length, take, if◌then◌else◌, Option, Some, None, is_some, Result, Ok, Err, IfOk, rules}
use Rattle.std.proofs.Math.Seq.{take-append_seam}
use Rattle.std.specs.Bool.{Decides}
use Rattle.earlier_items.specs.Before.{AreBefore}
use Rattle.item_readings.specs.Readings.{IsReader, Reader}
use Rattle.scope_tables.specs.declared.meanings.BodyMeaning.{BodyMeaning}
use Rattle.scope_tables.specs.declared.meanings.HeadMeaning.{HeadMeaning}
use Rattle.tok_data.specs.declared.tokens.OutToken.{OutToken}
use Rattle.type_data.specs.contracts.names.ItemNamePartialEq.TheImpl as names
use Rattle.type_data.specs.declared.names.ItemName.{ItemName}
use Rattle.unit_items.specs.declared.items.Item.{Item}
use Rattle.stmt_checks.proofs.Alike.{all_bodies_alike, head_alike, whole_alike}
use Rattle.stmt_checks.proofs.Folds.{goes_turns}
use Rattle.stmt_checks.specs.declared.folding.Folding.{Folding}
use Rattle.stmt_checks.specs.Folding.{Goes, Takes, TakesItem, folded_of}
use Rattle.stmt_checks.specs.Folds.{Folded, all_items, bodies, body, head, head_tokens, is_checked, nothing, own, with_bodies, with_head, with_item}
use Rattle.stmt_checks.specs.Last.{AreAlike, AreMeant, IsLast, if_any, more_bodies, more_heads}

-- ---- what all items come to, by those that stand behind others

heads_first : (r : Reader) (tokens : List OutToken) (a : Folded) (is : List Item) → (all_items r tokens a is).heads ≡ a.heads ++ more_heads r tokens a.heads is
heads_first r tokens a [] = sym (append-nil a.heads)
heads_first r tokens a (i ∷ is) =
    heads_first r tokens (with_item r tokens i a) is
    ∙ append_assoc a.heads (head r i.name (own tokens i) a.heads ∷ []) (more_heads r tokens (with_item r tokens i a).heads is)

bodies_first : (r : Reader) (tokens : List OutToken) (a : Folded) (is : List Item) → (all_items r tokens a is).bodies ≡ a.bodies ++ more_bodies r tokens a.heads is
bodies_first r tokens a [] = sym (append-nil a.bodies)
bodies_first r tokens a (i ∷ is) =
    bodies_first r tokens (with_item r tokens i a) is
    ∙ append_assoc a.bodies (bodies r (own tokens i) (head r i.name (own tokens i) a.heads) a.heads) (more_bodies r tokens (with_item r tokens i a).heads is)

-- a unit that was worked out can be taken over
pub can_be_taken : (tokens : List OutToken) (items : List Item) (f : Folding) → length tokens ≤ 2000000 →
    ((r : Reader) → IsReader r → folded_of f ≡ all_items r tokens nothing items) → IsLast tokens items f.heads.items f.bodies.items
can_be_taken tokens items f few e = record {
  meant = record {
    heads = λ r is. ap (λ a. a.heads) (e r is) ∙ heads_first r tokens nothing items;
    bodies = λ r is. ap (λ a. a.bodies) (e r is) ∙ bodies_first r tokens nothing items;
  };
  few = few;
}

-- the items in front can be too, where others were worked out behind them
pub front_stays : (tokens : List OutToken) (first own : List Item) (f : Folding) (g : Folded) (m n : ℕ) → length tokens ≤ 2000000 → m ≡ length f.heads.items → n ≡ length f.bodies.items →
    ((r : Reader) → IsReader r → folded_of f ≡ all_items r tokens nothing first) → ((r : Reader) → IsReader r → g ≡ all_items r tokens (folded_of f) own) →
    IsLast tokens first (take m g.heads) (take n g.bodies)
front_stays tokens first own f g m n few d e front all =
    let last : IsLast tokens first f.heads.items f.bodies.items = can_be_taken tokens first f few front in record {
      meant = record {
        heads = λ r is.
            ap (λ k. take k g.heads) d ∙ ap (λ a. take (length f.heads.items) a.heads) (all r is)
            ∙ ap (take (length f.heads.items)) (heads_first r tokens (folded_of f) own)
            ∙ take-append_seam f.heads.items (more_heads r tokens f.heads.items own) ∙ last.meant.heads r is;
        bodies = λ r is.
            ap (λ k. take k g.bodies) e ∙ ap (λ a. take (length f.bodies.items) a.bodies) (all r is)
            ∙ ap (take (length f.bodies.items)) (bodies_first r tokens (folded_of f) own)
            ∙ take-append_seam f.bodies.items (more_bodies r tokens f.heads.items own) ∙ last.meant.bodies r is;
      };
      few = few;
    }

-- ---- the next item

abbrev first_of : HeadMeaning → List HeadMeaning → HeadMeaning
first_of h [] = h
first_of h (g ∷ gs) = g

abbrev rest_of : {A : Type 0} → List A → List A
rest_of [] = []
rest_of (x ∷ xs) = xs

abbrev first_body : BodyMeaning → List BodyMeaning → BodyMeaning
first_body b [] = b
first_body b (c ∷ cs) = c

-- a body that is there is the one that is meant, and what follows it is what follows that
alone : (x : Option BodyMeaning) (b : Bool) (y : BodyMeaning) (xs ys : List BodyMeaning) → is_some x ≡ b → if_any x ++ xs ≡ (if b then y ∷ [] else []) ++ ys →
    (if_any x ≡ (if b then y ∷ [] else [])) × (xs ≡ ys)
alone (Some x) true y xs ys e all = (ap (λ cs. first_body x cs ∷ []) all, ap rest_of all)
alone (Some x) false y xs ys e all = absurd (cc e)
alone None true y xs ys e all = absurd (cc e)
alone None false y xs ys e all = (refl, all)

-- what an item adds, where the next head of another unit is `h` and its next body, if the other item has one, is `x`
module _ (us : List OutToken) (hs hs' : List HeadMeaning) (bs bs' : List BodyMeaning) (h : HeadMeaning) (x : Option BodyMeaning) (next : hs ≡ h ∷ hs') (other : bs ≡ if_any x ++ bs')
    (checked : is_some x ≡ is_checked us h) (front : List HeadMeaning) (before : List OutToken) (j : Item) (is : List Item) (same : own before j ≡ us)
    (meant : AreMeant before front (j ∷ is) hs bs) (r : Reader) (reads : IsReader r) where
  abbrev its : HeadMeaning
  its = head r j.name us front

  all_heads : h ∷ hs' ≡ its ∷ more_heads r before (front ++ its ∷ []) is
  all_heads = sym next ∙ meant.heads r reads ∙ ap (λ ts. head r j.name ts front ∷ more_heads r before (front ++ head r j.name ts front ∷ []) is) same

  pub its_head : h ≡ its
  its_head = ap (first_of h) all_heads

  pub heads_left : hs' ≡ more_heads r before (front ++ its ∷ []) is
  heads_left = ap rest_of all_heads

  all_bodies : if_any x ++ bs' ≡ bodies r us its front ++ more_bodies r before (front ++ its ∷ []) is
  all_bodies = sym other ∙ meant.bodies r reads ∙ ap (λ ts. bodies r ts (head r j.name ts front) front ++ more_bodies r before (front ++ head r j.name ts front ∷ []) is) same

  told : (if_any x ≡ bodies r us its front) × (bs' ≡ more_bodies r before (front ++ its ∷ []) is)
  told =
      alone x (is_checked us its) (body r us its front) bs' (more_bodies r before (front ++ its ∷ []) is) (checked ∙ ap (λ k. is_checked us k) its_head) all_bodies

  pub its_bodies : if_any x ≡ bodies r us its front
  its_bodies = told.0

  pub bodies_left : bs' ≡ more_bodies r before (front ++ its ∷ []) is
  bodies_left = told.1

module _ (us ts : List OutToken) (f g : Folding) (hs hs' : List HeadMeaning) (bs bs' : List BodyMeaning) (h : HeadMeaning) (x : Option BodyMeaning) (next : hs ≡ h ∷ hs')
    (other : bs ≡ if_any x ++ bs') (checked : is_some x ≡ is_checked us h) (heads : g.heads.items ≡ f.heads.items ++ h ∷ [])
    (bodied : (r : Reader) → IsReader r → h ≡ h → if_any x ≡ bodies r us h f.heads.items → g.bodies.items ≡ with_bodies r ts h f.heads.items f.bodies.items) where
  module _ (before : List OutToken) (j : Item) (is : List Item) (same : own before j ≡ us) (meant : AreMeant before f.heads.items (j ∷ is) hs bs) (r : Reader) (reads : IsReader r) where
    is_its : h ≡ head r j.name us f.heads.items
    is_its = its_head us hs hs' bs bs' h x next other checked f.heads.items before j is same meant r reads

    made : g.bodies.items ≡ with_bodies r ts h f.heads.items f.bodies.items
    made =
        bodied r reads refl (its_bodies us hs hs' bs bs' h x next other checked f.heads.items before j is same meant r reads
        ∙ ap (λ k. bodies r us k f.heads.items) (sym is_its))

    the_item : folded_of g ≡ with_head r ts (head r j.name us f.heads.items) (folded_of f)
    the_item = (λ i. record { heads = heads i; bodies = made i }) ∙ ap (λ k. with_head r ts k (folded_of f)) is_its

    front : f.heads.items ++ head r j.name us f.heads.items ∷ [] ≡ g.heads.items
    front = ap (λ k. f.heads.items ++ k ∷ []) (sym is_its) ∙ sym heads

    more : hs' ≡ more_heads r before g.heads.items is
    more = heads_left us hs hs' bs bs' h x next other checked f.heads.items before j is same meant r reads ∙ ap (λ xs. more_heads r before xs is) front

    others : bs' ≡ more_bodies r before g.heads.items is
    others = bodies_left us hs hs' bs bs' h x next other checked f.heads.items before j is same meant r reads ∙ ap (λ xs. more_bodies r before xs is) front

  takes : Takes us ts f g hs hs' bs bs'
  takes = record {
    item = λ before j is same meant r reads. the_item before j is same meant r reads;
    rest = λ before j is same meant. record {
      heads = λ r reads. more before j is same meant r reads;
      bodies = λ r reads. others before j is same meant r reads;
    };
  }

-- with the other item's body
pub takes_whole : (us : List OutToken) (f g : Folding) (hs hs' : List HeadMeaning) (bs bs' : List BodyMeaning) (h : HeadMeaning) (x : Option BodyMeaning) → hs ≡ h ∷ hs' →
    bs ≡ if_any x ++ bs' → is_some x ≡ is_checked us h → g.heads.items ≡ f.heads.items ++ h ∷ [] → g.bodies.items ≡ f.bodies.items ++ if_any x → Takes us us f g hs hs' bs bs'
takes_whole us f g hs hs' bs bs' h x next other checked heads bodied =
    takes us us f g hs hs' bs bs' h x next other checked heads (λ r is e one. bodied ∙ ap (λ cs. f.bodies.items ++ cs) one)

-- with a body of its own
pub takes_head : (us ts : List OutToken) (f g : Folding) (hs hs' : List HeadMeaning) (bs bs' : List BodyMeaning) (h : HeadMeaning) (x : Option BodyMeaning) → hs ≡ h ∷ hs' →
    bs ≡ if_any x ++ bs' → is_some x ≡ is_checked us h → g.heads.items ≡ f.heads.items ++ h ∷ [] →
    ((r : Reader) → IsReader r → g.bodies.items ≡ with_bodies r ts h f.heads.items f.bodies.items) → Takes us ts f g hs hs' bs bs'
takes_head us ts f g hs hs' bs bs' h x next other checked heads bodied =
    takes us ts f g hs hs' bs bs' h x next other checked heads (λ r is e one. bodied r is)

-- ---- an item as another one with the same name

module _ (i j : Item) (ts us : List OutToken) (f g : Folding) (hs hs' : List HeadMeaning) (bs bs' : List BodyMeaning) (name : i.name ≡ j.name) where
  pub item_whole : AreAlike ts us → Takes us us f g hs hs' bs bs' → TakesItem i ts j us f g hs hs' bs bs'
  item_whole e step = record {
    item = λ before is same meant r reads.
        step.item before j is same meant r reads
        ∙ ap (λ n. with_head r us (head r n us f.heads.items) (folded_of f)) (sym name)
        ∙ ap (λ k. with_head r us k (folded_of f)) (sym (whole_alike r i.name ts us f.heads.items e))
        ∙ ap (λ cs. record { heads = f.heads.items ++ head r i.name ts f.heads.items ∷ []; bodies = f.bodies.items ++ cs })
        (sym (all_bodies_alike r ts us (head r i.name ts f.heads.items) f.heads.items e));
    rest = λ before is same meant. step.rest before j is same meant;
  }

  pub item_head : AreAlike (head_tokens ts) (head_tokens us) → Takes us ts f g hs hs' bs bs' → TakesItem i ts j us f g hs hs' bs bs'
  item_head e step = record {
    item = λ before is same meant r reads.
        step.item before j is same meant r reads
        ∙ ap (λ n. with_head r ts (head r n us f.heads.items) (folded_of f)) (sym name)
        ∙ ap (λ k. with_head r ts k (folded_of f)) (sym (head_alike r i.name ts us f.heads.items e));
    rest = λ before is same meant. step.rest before j is same meant;
  }

-- ---- one item after another

pub record Taking (tokens : List OutToken) (items : List Item) (before : List OutToken) (f : Folding) (rest others : List Item) (hs : List HeadMeaning) (bs : List BodyMeaning) : Type 0 where
  pub goes : Goes tokens nothing items f rest
  pub left : AreMeant before f.heads.items others hs bs
  pub few : length before ≤ 2000000

pub taking_turns : {tokens : List OutToken} {items : List Item} {before : List OutToken} {f g : Folding} {rest more others behind : List Item} {i j : Item} {hs hs' : List HeadMeaning} {bs bs' : List BodyMeaning} →
    Taking tokens items before f rest others hs bs → rest ≡ i ∷ more → others ≡ j ∷ behind → TakesItem i (own tokens i) j (own before j) f g hs hs' bs bs' →
    AreBefore g.heads.items g.earlier → Taking tokens items before g more behind hs' bs'
taking_turns {tokens} {items} {before} {f} {g} {rest} {more} {others} {behind} {i} {j} {hs} {hs'} {bs} {bs'} was e d step known =
    let left : AreMeant before f.heads.items (j ∷ behind) hs bs = subst (λ xs. AreMeant before f.heads.items xs hs bs) d was.left in record {
      goes = goes_turns was.goes e known (λ r is. step.item before behind refl left r is);
      left = step.rest before behind refl left;
      few = was.few;
    }

-- ---- whether two items are the same

pub same_name : (a b : ItemName) → names.eq-value.it a b ≡ true → a ≡ b
same_name a b e = let both : Decides (names.eq-value.it a b) (a ≡ b) = search rules in both.0 e

pub taken_as : {E P Q : Type 0} (r : Result Bool E) → (P → Q) → IfOk r (λ t. t ≡ true → P) → IfOk r (λ t. t ≡ true → Q)
taken_as (Ok t) f h = λ e. f (h e)
taken_as (Err e) f h = h
