-- The own items of a unit, one after another.
use Rattle.std.proofs.Common.{◌≡◌, refl, sym, ap, ap₂, ◌∙◌, subst, ℕ, ◌+◌, arith, true, List, [], ◌∷◌, ◌++◌, append_assoc, append-nil, drop, length, length-append, is_some, Option, Some, None, IfSome}
use Rattle.std.proofs.Math.Seq.{drop-append_seam}
use Rattle.earlier_items.specs.Before.{AreBefore}
use Rattle.earlier_items.specs.declared.differences.Changed.{Changed}
use Rattle.elab_state.specs.Tokens.{bare_tokens}
use Rattle.elab_state.specs.Wants.{Told}
use Rattle.item_cut.specs.Items.{body_at}
use Rattle.item_readings.specs.Readings.{IsReader, Reader}
use Rattle.scope_tables.specs.declared.meanings.BodyMeaning.{BodyMeaning}
use Rattle.scope_tables.specs.declared.meanings.HeadMeaning.{HeadMeaning}
use Rattle.tok_data.specs.declared.tokens.OutToken.{OutToken}
use Rattle.type_data.specs.declared.names.ItemName.{ItemName}
use Rattle.unit_items.specs.declared.items.Item.{Item}
use Rattle.stmt_checks.proofs.Firm.{firm_body, firm_head}
use Rattle.stmt_checks.proofs.Folds.{added, goes_begins, goes_turns, no_body, one_body}
use Rattle.stmt_checks.specs.Firm.{Adds, AreFirm, AreNamed, AreTagged, BodyThen, IsBody, IsBodyOf, IsBodyPart, IsFirmHead, IsHead, IsKept, IsPart, SaysNothing, tokens_of}
use Rattle.stmt_checks.specs.Folding.{folded_of}
use Rattle.stmt_checks.specs.Folds.{body_tokens, head, head_tokens, is_checked, own, with_bodies, with_head}
use Rattle.stmt_checks.specs.Last.{if_any}
use Rattle.stmt_checks.specs.Owning.{Adding, AreOwn, IsOwn, Owns, Unit_of}
use Rattle.stmt_checks.specs.Taking.{AllRead}
use Rattle.stmt_checks.specs.declared.folding.Folding.{Folding}
use Rattle.stmt_checks.specs.declared.kept.Noted.{Noted}
use Rattle.stmt_checks.specs.declared.kept.Read.{Read}
use Rattle.stmt_checks.specs.declared.parts.BodyPart.{BodyPart}
use Rattle.stmt_checks.specs.declared.parts.Part.{Part}

-- ---- an item that was added is the next of the unit

bodies_meant : (r : Reader) → IsReader r → (ts : List OutToken) (front : List HeadMeaning) (h : HeadMeaning) (b : Option BodyMeaning) → IsBodyOf ts front h b → is_some b ≡ is_checked ts h →
    (bs : List BodyMeaning) → bs ++ if_any b ≡ with_bodies r ts h front bs
bodies_meant r is ts front h (Some b) meant checked bs =
    one_body r ts h front bs (bs ++ b ∷ []) b (sym checked) refl (firm_body front h b (bare_tokens (body_tokens ts)) (body_at ts) meant r is)
bodies_meant r is ts front h None meant checked bs = no_body r ts h front bs (bs ++ []) (sym checked) (append-nil bs)

pub step : (name : ItemName) (ts : List OutToken) (h : HeadMeaning) (f g : Folding) (ps ps' : List Part) → Adds name ts h f g ps ps' → (r : Reader) → IsReader r →
    folded_of g ≡ with_head r ts (head r name ts f.heads.items) (folded_of f)
step name ts h f g ps ps' adds r is =
    added r ts (folded_of f) (folded_of g) h (head r name ts f.heads.items) (firm_head f.heads.items name h (bare_tokens (head_tokens ts)) adds.meant.head r is) adds.heads
    (adds.bodies ∙ bodies_meant r is ts f.heads.items h adds.b adds.meant.body adds.meant.checked f.bodies.items)

-- ---- with its part it is firm

pub body_firm : (names : Told) (first front : List HeadMeaning) (ts : List OutToken) (h : HeadMeaning) (b : Option BodyMeaning) (p : Option BodyPart) → IsBodyPart ts p → is_some p ≡ is_some b →
    IsBodyOf ts front h b → AreNamed names first (bare_tokens (body_tokens ts)) → (bs : List BodyMeaning) (Behind : List BodyMeaning → Type 0) → Behind bs →
    BodyThen names first front h p (if_any b ++ bs) Behind
body_firm names first front ts h None None part same meant named bs Behind behind = behind
body_firm names first front ts h None (Some p) part same meant named bs Behind behind = absurd (cc same)
body_firm names first front ts h (Some b) None part same meant named bs Behind behind = absurd (cc same)
body_firm names first front ts h (Some b) (Some p) part same meant named bs Behind behind = (
  (
    subst (λ us. IsBody front h b us p.base) (sym part.0) (subst (λ n. IsBody front h b (bare_tokens (body_tokens ts)) n) (sym part.1) meant),
    subst (λ us. AreNamed names first us) (sym part.0) named,
  ),
  behind,
)

pub head_firm : (names : Told) (first front : List HeadMeaning) (name : ItemName) (ts : List OutToken) (h : HeadMeaning) (p : Part) → IsPart name ts h p →
    IsHead front name h (bare_tokens (head_tokens ts)) → AreNamed names first (bare_tokens (head_tokens ts)) → IsFirmHead names first front h p
head_firm names first front name ts h p part meant named = (
  subst (λ n. IsHead front n h (tokens_of p.words.items)) (sym part.named) (subst (λ us. IsHead front name h us) (sym part.words) meant),
  subst (λ us. AreNamed names first us) (sym part.words) named,
)

pub as_firm : (names : Told) (first front : List HeadMeaning) {ps ps' : List Part} {hs hs' : List HeadMeaning} {bs bs' : List BodyMeaning} → ps ≡ ps' → hs ≡ hs' → bs ≡ bs' →
    AreFirm names first front ps hs bs → AreFirm names first front ps' hs' bs'
as_firm names first front {ps} {ps'} {hs} {hs'} {bs} {bs'} d e f firm =
    subst (λ xs. AreFirm names first front xs hs' bs') d (subst (λ xs. AreFirm names first front ps xs bs') e (subst (λ xs. AreFirm names first front ps hs xs) f firm))

unfoldable pub owns_turns : {names : Told} {first : List HeadMeaning} {firsts : List BodyMeaning} {f g : Folding} {ps ps' : List Part} (name : ItemName) (ts : List OutToken) (h : HeadMeaning) →
    Owns names first firsts f ps → Adds name ts h f g ps ps' → AreNamed names first (bare_tokens (head_tokens ts)) → AreNamed names first (bare_tokens (body_tokens ts)) →
    Owns names first firsts g ps'
owns_turns {names} {first} {firsts} {f} {g} {ps} {ps'} name ts h o a head_named body_named = record {
  hs = o.hs ++ h ∷ [];
  bs = o.bs ++ if_any a.b;
  heads = a.heads ∙ ap (λ xs. xs ++ h ∷ []) o.heads ∙ append_assoc first o.hs (h ∷ []);
  bodies = a.bodies ∙ ap (λ xs. xs ++ if_any a.b) o.bodies ∙ append_assoc firsts o.bs (if_any a.b);
  firmly = λ qs hs' bs' more.
      as_firm names first first (sym (ap (λ xs. xs ++ qs) a.parts ∙ append_assoc ps (a.p ∷ []) qs)) (sym (append_assoc o.hs (h ∷ []) hs')) (sym (append_assoc o.bs (if_any a.b) bs'))
      (o.firmly (a.p ∷ qs) (h ∷ hs') (if_any a.b ++ bs') (
        head_firm names first f.heads.items name ts h a.p a.part a.meant.head head_named,
        body_firm names first f.heads.items ts h a.b a.p.body a.part.body (a.part.checked ∙ sym a.meant.checked) a.meant.body body_named bs'
            (AreFirm names first (f.heads.items ++ h ∷ []) qs hs') (subst (λ xs. AreFirm names first xs qs hs' bs') a.heads more),
      ));
}

unfoldable pub adding_turns : {u : Unit_of} {f g : Folding} {ps ps' : List Part} {rest behind : List Item} {i : Item} (h : HeadMeaning) → Adding u f ps rest → rest ≡ i ∷ behind →
    Adds i.name (own u.tokens i) h f g ps ps' → AreBefore g.heads.items g.earlier → Adding u g ps' behind
adding_turns {u} {f} {g} {ps} {ps'} {rest} {behind} {i} h was is a known =
    let read : AllRead u.was u.names u.first u.changed u.tokens (i ∷ behind) = subst (λ xs. AllRead u.was u.names u.first u.changed u.tokens xs) is was.read in record {
      goes = goes_turns was.goes is known (λ r reads. step i.name (own u.tokens i) h f g ps ps' a r reads);
      owns = owns_turns i.name (own u.tokens i) h was.owns a read.0.head_named read.0.body_named;
      read = read.1;
    }

-- ---- from the first to the last

abbrev pub unit_of : (tokens : List OutToken) (f : Folding) (items : List Item) (was names : Told) (changed : Changed) → Unit_of
unit_of tokens f items was names changed = record {
  tokens = tokens;
  first = f.heads.items;
  firsts = f.bodies.items;
  items = items;
  was = was;
  names = names;
  changed = changed;
}

unfoldable pub adding_begins : (tokens : List OutToken) (f : Folding) (items : List Item) (was names : Told) (changed : Changed) → AreBefore f.heads.items f.earlier →
    AllRead was names f.heads.items changed tokens items → Adding (unit_of tokens f items was names changed) f [] items
adding_begins tokens f items was names changed known read = record {
  goes = goes_begins tokens items f known;
  owns = record {
    hs = [];
    bs = [];
    heads = sym (append-nil f.heads.items);
    bodies = sym (append-nil f.bodies.items);
    firmly = λ ps hs' bs' firm. firm;
  };
  read = read;
}

pub own_ends : (tokens : List OutToken) (f g : Folding) (parts : List Part) (items rest : List Item) (was : Told) (changed : Changed) (read : Read) →
    Adding (unit_of tokens f items was read.names changed) g parts rest → AreTagged f.heads.items read.tags.items → (read.alone ≡ true → SaysNothing read.names) → IsOwn f g parts read
own_ends tokens f g parts items rest was changed read all tagged nothing = record {
  hs = all.owns.hs;
  bs = all.owns.bs;
  heads = all.owns.heads;
  bodies = all.owns.bodies;
  kept = record {
    first = f.heads.items;
    firm = as_firm read.names f.heads.items f.heads.items (append-nil parts) (append-nil all.owns.hs) (append-nil all.owns.bs) (all.owns.firmly [] [] [] tt);
    tagged = tagged;
    nothing = nothing;
  };
}

-- ---- of the heads and bodies together, those behind the ones in front

pub are_own : (f g : Folding) (noted : Noted) (m n : ℕ) → m ≡ length f.heads.items → n ≡ length f.bodies.items → IsOwn f g noted.parts.items noted.read →
    AreOwn noted g.heads.items m g.bodies.items n
are_own f g noted m n d e own =
    let long : length g.heads.items ≡ length f.heads.items + length own.hs = ap length own.heads ∙ length-append f.heads.items own.hs in
    let more : length g.bodies.items ≡ length f.bodies.items + length own.bs = ap length own.bodies ∙ length-append f.bodies.items own.bs in
    let hs : own.hs ≡ drop m g.heads.items = sym (ap₂ drop d own.heads ∙ drop-append_seam f.heads.items own.hs) in
    let bs : own.bs ≡ drop n g.bodies.items = sym (ap₂ drop e own.bodies ∙ drop-append_seam f.bodies.items own.bs) in record {
      heads_in = omega (arith, d, long);
      bodies_in = omega (arith, e, more);
      kept = subst (λ xs. IsKept noted.parts.items xs (drop n g.bodies.items) noted.read) hs (subst (λ ys. IsKept noted.parts.items own.hs ys noted.read) bs own.kept);
    }

pub some_own : (f g : Folding) (m n : ℕ) → m ≡ length f.heads.items → n ≡ length f.bodies.items → (o : Option Noted) → IfSome o (λ noted. IsOwn f g noted.parts.items noted.read) →
    IfSome o (λ noted. AreOwn noted g.heads.items m g.bodies.items n)
some_own f g m n d e (Some noted) own = are_own f g noted m n d e own
some_own f g m n d e None own = own
