-- What is taken over from an earlier version of a unit.
use Rattle.std.proofs.Common.{◌≡◌, refl, sym, ap, ◌∙◌, subst, List, [], ◌∷◌, ◌++◌, append_assoc, append-nil, is_some, Option, Some, None, option_map, unwrap_or}
use Rattle.earlier_items.specs.Before.{AreBefore, before, in_head, members_only, said, tag, tags_before}
use Rattle.earlier_items.specs.Differences.{Asks}
use Rattle.earlier_items.specs.declared.differences.Changed.{Changed}
use Rattle.elab_state.specs.Tokens.{bare_tokens}
use Rattle.elab_state.specs.Wants.{Told}
use Rattle.elab_state.specs.declared.wants.Wanted.{Wanted}
use Rattle.item_cut.specs.Items.{body_at}
use Rattle.scope_tables.specs.Scopes.{or_outside}
use Rattle.scope_tables.specs.declared.entities.Entity.{Entity}
use Rattle.scope_tables.specs.declared.meanings.BodyMeaning.{BodyMeaning}
use Rattle.scope_tables.specs.declared.meanings.HeadMeaning.{HeadMeaning}
use Rattle.tok_data.specs.declared.tokens.OutToken.{OutToken}
use Rattle.type_data.specs.declared.members.Space.{Space}
use Rattle.type_data.specs.declared.members.Space.TheVariants as space
use Rattle.unit_items.specs.declared.items.Item.{Item}
use Rattle.stmt_checks.proofs.Firm.{body_moves, head_moves}
use Rattle.stmt_checks.proofs.Owned.{adding_begins, adding_turns, owns_turns, unit_of}
use Rattle.stmt_checks.specs.Firm.{Adds, AddsOne, AreFirm, AreTagged, BodyThen, IsBody, IsFirmBody, IsHead, IsKept, tokens_of}
use Rattle.stmt_checks.specs.Folds.{body_tokens, head_tokens, own}
use Rattle.stmt_checks.specs.Last.{if_any}
use Rattle.stmt_checks.specs.Owning.{Adding, IsLeft, IsTaking, TakingOver, Unit_of}
use Rattle.stmt_checks.specs.Taking.{AllRead, BodyHolds, HeadHolds, ItemRead}
use Rattle.stmt_checks.specs.declared.folding.Folding.{Folding}
use Rattle.stmt_checks.specs.declared.kept.Read.{Read}
use Rattle.stmt_checks.specs.declared.parts.BodyPart.{BodyPart}
use Rattle.stmt_checks.specs.declared.parts.KeptItem.{KeptItem}
use Rattle.stmt_checks.specs.declared.parts.Part.{Part}

-- ---- what items say behind others that say the same

outside_none : (a : Option Entity) → or_outside a None ≡ a
outside_none None = refl
outside_none (Some e) = refl

outside_twice : (a b c : Option Entity) → or_outside (or_outside a b) c ≡ or_outside a (or_outside b c)
outside_twice None b c = refl
outside_twice (Some e) b c = refl

behind_others : (q : Wanted) (xs ys : List HeadMeaning) → before (xs ++ ys) q ≡ or_outside (before ys q) (before xs q)
behind_others q [] ys = sym (outside_none (before ys q))
behind_others q (x ∷ xs) ys = ap (λ o. or_outside o (in_head q x)) (behind_others q xs ys) ∙ outside_twice (before ys q) (before xs q) (in_head q x)

same_behind : (q : Wanted) (xs ys hs : List HeadMeaning) → before xs q ≡ before ys q → before (xs ++ hs) q ≡ before (ys ++ hs) q
same_behind q xs ys hs e = behind_others q xs hs ∙ ap (or_outside (before hs q)) e ∙ sym (behind_others q ys hs)

members_both : (s : Space) (a b : Option Entity) → members_only s (or_outside a b) ≡ or_outside (members_only s a) (members_only s b)
members_both space.Labels a b = refl
members_both space.Tags a b = refl
members_both (space.Members id) a b = refl
members_both space.Ordinary a b = refl

some_is : (a b : Option Entity) → option_map Some a ≡ option_map Some b → a ≡ b
some_is None None e = refl
some_is None (Some y) e = absurd (cc e)
some_is (Some x) None e = absurd (cc e)
some_is (Some x) (Some y) e = ap (λ o. unwrap_or o (Some x)) e

tags_behind : (q : Wanted) (xs ys hs : List HeadMeaning) → tags_before xs q ≡ tags_before ys q → tags_before (xs ++ hs) q ≡ tags_before (ys ++ hs) q
tags_behind q xs ys hs e =
    ap (λ o. option_map Some (members_only q.space o)) (behind_others q xs hs)
    ∙ ap (option_map Some) (members_both q.space (before hs q) (before xs q) ∙ ap (or_outside (members_only q.space (before hs q))) (some_is _ _ e)
    ∙ sym (members_both q.space (before hs q) (before ys q)))
    ∙ ap (λ o. option_map Some (members_only q.space o)) (sym (behind_others q ys hs))

-- ---- the next of what is left

pub record IsNext (k : KeptItem) (ps ps' : List Part) (hs hs' : List HeadMeaning) (bs bs' : List BodyMeaning) : Type 0 where
  pub parts : ps ≡ k.part ∷ ps'
  pub heads : hs ≡ k.head ∷ hs'
  pub bodies : bs ≡ if_any k.body ++ bs'
  pub body : is_some k.body ≡ is_some k.part.body

-- some unit's next item, which has these tokens
module _ (tokens : List OutToken) (changed : Changed) (u : Unit_of) (before_all : List HeadMeaning) (tokens_are : u.tokens ≡ tokens) (changed_are : u.changed ≡ changed) (f : Folding)
    (parts : List Part) (rest behind : List Item) (i : Item) (ps ps' : List Part) (hs hs' : List HeadMeaning) (bs bs' : List BodyMeaning) (k : KeptItem)
    (was : TakingOver u f parts rest before_all ps hs bs) (is : rest ≡ i ∷ behind) (next : IsNext k ps ps' hs hs' bs bs') (ts : List OutToken) (own_is : ts ≡ own tokens i) where
  abbrev its : List OutToken
  its = own u.tokens i

  same : ts ≡ its
  same = own_is ∙ ap (λ t. own t i) (sym tokens_are)

  -- what stood in front of it, and what stands there now
  abbrev stood : List HeadMeaning
  stood = before_all ++ was.adding.owns.hs

  front : f.heads.items ≡ u.first ++ was.adding.owns.hs
  front = was.adding.owns.heads

  its_left : AreFirm u.was before_all stood (k.part ∷ ps') (k.head ∷ hs') (if_any k.body ++ bs')
  its_left =
      subst (λ xs. AreFirm u.was before_all stood xs (k.head ∷ hs') (if_any k.body ++ bs')) next.parts
      (subst (λ xs. AreFirm u.was before_all stood ps xs (if_any k.body ++ bs')) next.heads
      (subst (λ xs. AreFirm u.was before_all stood ps hs xs) next.bodies was.left))

  its_read : ItemRead u.was u.names u.first u.changed its
  its_read = (subst (λ xs. AllRead u.was u.names u.first u.changed u.tokens xs) is was.adding.read).0

  tags : (q : Wanted) → tags_before stood q ≡ tags_before f.heads.items q
  tags q = tags_behind q before_all u.first was.adding.owns.hs (was.tags q) ∙ ap (λ xs. tags_before xs q) (sym front)

  said_same : (q : Wanted) → said u.was q ≡ before before_all q → said u.was q ≡ before u.first q → before stood q ≡ before f.heads.items q
  said_same q d e = same_behind q before_all u.first was.adding.owns.hs (sym d ∙ e) ∙ ap (λ xs. before xs q) (sym front)

  its_head : HeadHolds i.name its f.heads.items u.changed k
  its_head stays =
      let firm : IsHead stood i.name k.head (bare_tokens (head_tokens its)) =
      subst (λ n. IsHead stood n k.head (bare_tokens (head_tokens its))) (sym stays.named) (subst (λ us. IsHead stood k.part.name k.head us) (sym stays.alike) its_left.0.0) in
      head_moves stood f.heads.items tags i.name k.head (bare_tokens (head_tokens its))
      (λ q asks. said_same q (its_left.0.1 q (subst (λ us. Asks us q) stays.alike asks)) (its_read.head_left q asks (stays.left q asks))) firm

  its_part : (o : Option BodyPart) (p : BodyPart) (x : Option BodyMeaning) (b : BodyMeaning) (Behind : List BodyMeaning → Type 0) → o ≡ Some p → x ≡ Some b →
      BodyThen u.was before_all stood k.head o (if_any x ++ bs') Behind → IsFirmBody u.was before_all stood k.head p b
  its_part o p x b Behind d e firm =
      (subst (λ y. BodyThen u.was before_all stood k.head y (b ∷ bs') Behind) d
      (subst (λ y. BodyThen u.was before_all stood k.head o (if_any y ++ bs') Behind) e firm)).0

  its_body : BodyHolds its f.heads.items u.changed k
  its_body p b part body stays =
      let firm : IsFirmBody u.was before_all stood k.head p b = its_part k.part.body p k.body b (AreFirm u.was before_all (stood ++ k.head ∷ []) ps' hs') part body its_left.1 in
      let moved : IsBody stood k.head b (bare_tokens (body_tokens its)) (body_at its) =
      subst (λ us. IsBody stood k.head b us (body_at its)) (sym stays.alike) (subst (λ n. IsBody stood k.head b (tokens_of p.words.items) n) stays.base firm.0) in
      body_moves stood f.heads.items tags k.head b (bare_tokens (body_tokens its)) (body_at its)
      (λ q asks. said_same q (firm.1 q (subst (λ us. Asks us q) stays.alike asks)) (its_read.body_left q asks (stays.left q asks))) moved

  pub head_holds : HeadHolds i.name ts f.heads.items changed k
  head_holds = subst (λ c. HeadHolds i.name ts f.heads.items c k) changed_are (subst (λ us. HeadHolds i.name us f.heads.items u.changed k) (sym same) its_head)

  pub body_holds : BodyHolds ts f.heads.items changed k
  body_holds = subst (λ c. BodyHolds ts f.heads.items c k) changed_are (subst (λ us. BodyHolds us f.heads.items u.changed k) (sym same) its_body)

  behind_of : (o : Option BodyPart) (x : Option BodyMeaning) (Behind : List BodyMeaning → Type 0) → is_some x ≡ is_some o → BodyThen u.was before_all stood k.head o (if_any x ++ bs') Behind →
      Behind bs'
  behind_of None None Behind e firm = firm
  behind_of None (Some b) Behind e firm = absurd (cc e)
  behind_of (Some p) None Behind e firm = absurd (cc e)
  behind_of (Some p) (Some b) Behind e firm = firm.1

  pub taking_turns : (g : Folding) (parts' : List Part) → Adds i.name ts k.head f g parts parts' → AreBefore g.heads.items g.earlier →
      TakingOver u g parts' behind before_all ps' hs' bs'
  unfolding adding_turns owns_turns
  taking_turns g parts' a known = record {
    adding = adding_turns k.head was.adding is (subst (λ us. Adds i.name us k.head f g parts parts') same a) known;
    left =
        subst (λ xs. AreFirm u.was before_all xs ps' hs' bs') (append_assoc before_all was.adding.owns.hs (k.head ∷ []))
        (behind_of k.part.body k.body (AreFirm u.was before_all (stood ++ k.head ∷ []) ps' hs') next.body its_left.1);
    tags = was.tags;
  }

-- ---- nothing changed

pub adding_stays : {u : Unit_of} {f g : Folding} {parts parts' : List Part} {rest : List Item} → g ≡ f → parts' ≡ parts → Adding u f parts rest → Adding u g parts' rest
adding_stays {u} {f} {g} {parts} {parts'} {rest} d e was = subst (λ h. Adding u h parts' rest) (sym d) (subst (λ ps. Adding u f ps rest) (sym e) was)

-- ---- items that are worked out: all but the rest were added

pub record AddsAll (tokens : List OutToken) (f : Folding) (parts : List Part) (items : List Item) (g : Folding) (parts' : List Part) (rest : List Item) : Type 0 where
  pub known : AreBefore g.heads.items g.earlier
  pub goes : (u : Unit_of) → u.tokens ≡ tokens → Adding u f parts items → Adding u g parts' rest

pub adds_begin : (tokens : List OutToken) (f : Folding) (parts : List Part) (items : List Item) → AreBefore f.heads.items f.earlier → AddsAll tokens f parts items f parts items
adds_begin tokens f parts items known = record { known = known; goes = λ u e was. was }

pub adds_turn : (tokens : List OutToken) (f g h : Folding) (parts parts' parts'' : List Part) (items rest behind : List Item) (i : Item) (ts : List OutToken) → rest ≡ i ∷ behind → ts ≡ own tokens i →
    AddsOne i.name ts g h parts' parts'' → AreBefore h.heads.items h.earlier → AddsAll tokens f parts items g parts' rest → AddsAll tokens f parts items h parts'' behind
adds_turn tokens f g h parts parts' parts'' items rest behind i ts is own_is one known was = record {
  known = known;
  goes = λ u e adding.
      adding_turns one.h (was.goes u e adding) is (subst (λ us. Adds i.name us one.h g h parts' parts'') (own_is ∙ ap (λ t. own t i) (sym e)) one.adds) known;
}

-- ---- at the front of a unit

pub taking_begins : (tokens : List OutToken) (f : Folding) (items : List Item) (was names : Told) (changed : Changed) (parts : List Part) (ps : List Part) (hs : List HeadMeaning)
    (bs : List BodyMeaning) → parts ≡ [] → AreBefore f.heads.items f.earlier → AllRead was names f.heads.items changed tokens items → (left : IsLeft f.heads.items ps hs bs was) →
    TakingOver (unit_of tokens f items was names changed) f parts items left.before ps hs bs
unfolding adding_begins
taking_begins tokens f items was names changed parts ps hs bs none known read left =
    subst (λ xs. TakingOver (unit_of tokens f items was names changed) f xs items left.before ps hs bs) (sym none) (record {
      adding = adding_begins tokens f items was names changed known read;
      left = subst (λ xs. AreFirm was left.before xs ps hs bs) (sym (append-nil left.before)) left.firm;
      tags = left.tags;
    })

pub is_taking : (tokens : List OutToken) (f : Folding) (items : List Item) (was names : Told) (changed : Changed) (parts : List Part) (ps : List Part) (hs : List HeadMeaning)
    (bs : List BodyMeaning) → parts ≡ [] → AreBefore f.heads.items f.earlier → AllRead was names f.heads.items changed tokens items → IsLeft f.heads.items ps hs bs was →
    IsTaking tokens changed f parts items ps hs bs
is_taking tokens f items was names changed parts ps hs bs none known read left = record {
  u = unit_of tokens f items was names changed;
  before = left.before;
  tokens_are = refl;
  changed_are = refl;
  taking = taking_begins tokens f items was names changed parts ps hs bs none known read left;
}

-- all of them, once they were taken over and worked out
pub all_added : (tokens : List OutToken) (f g : Folding) (items rest : List Item) (was names : Told) (changed : Changed) (parts parts' : List Part) (ps : List Part) (hs : List HeadMeaning)
    (bs : List BodyMeaning) → parts ≡ [] → AreBefore f.heads.items f.earlier → AllRead was names f.heads.items changed tokens items → IsLeft f.heads.items ps hs bs was →
    ((u : Unit_of) → (before : List HeadMeaning) → u.tokens ≡ tokens → u.changed ≡ changed → TakingOver u f parts items before ps hs bs → Adding u g parts' rest) →
    Adding (unit_of tokens f items was names changed) g parts' rest
all_added tokens f g items rest was names changed parts parts' ps hs bs none known read left all =
    all (unit_of tokens f items was names changed) left.before refl refl (taking_begins tokens f items was names changed parts ps hs bs none known read left)

-- ---- what is left of a unit

pub nothing_left : (first : List HeadMeaning) (was : Told) (ps : List Part) (hs : List HeadMeaning) (bs : List BodyMeaning) → ps ≡ [] → IsLeft first ps hs bs was
nothing_left first was ps hs bs none = record {
  before = first;
  firm = subst (λ xs. AreFirm was first first xs hs bs) (sym none) tt;
  tags = λ q. refl;
}

pub kept_left : (first : List HeadMeaning) (tags : List Entity) (read : Read) (parts ps : List Part) (heads hs : List HeadMeaning) (bodies bs : List BodyMeaning) → ps ≡ parts → hs ≡ heads → bs ≡ bodies →
    IsKept parts heads bodies read → read.tags.items ≡ tags → AreTagged first tags → IsLeft first ps hs bs read.names
kept_left first tags read parts ps heads hs bodies bs d e f kept same tagged = record {
  before = kept.first;
  firm =
      subst (λ xs. AreFirm read.names kept.first kept.first xs hs bs) (sym d)
      (subst (λ xs. AreFirm read.names kept.first kept.first parts xs bs) (sym e)
      (subst (λ xs. AreFirm read.names kept.first kept.first parts heads xs) (sym f) kept.firm));
  tags = λ q. kept.tagged q ∙ ap (λ es. option_map Some (tag q es)) same ∙ sym (tagged q);
}
