-- Brackets in statements are balanced.
use Rattle.std.proofs.Common.{◌≡◌, refl, ap, sym, ◌∙◌, subst, ℕ, ◌+◌, ◌||◌, true, false, true≢false, Option, None, Some}
use Rattle.tree_data.specs.Statements.{Statement, Statement_of, Core, Block_of, Expression_of, Goto_of, Continue_of, Break_of, Return_of, Do_of, Lead, Label_of, Case_of, Default_label_of, If_of, If_else_of, Switch_of, While_of, For_of, For_declaring_of, Leads, No_leads, Lead_then, Item, Declared_of, Stated_of, Items, No_items, Item_then}
use Rattle.tree_data.specs.Trees.{Tree}
use Rattle.c_parser.specs.declared.kinds.Kind.{Kind}
use Rattle.c_parser.specs.declared.kinds.Kind.TheVariants.{Identifier, TypeName, OpenParen, OpenBracket, OpenBrace, Colon, Semicolon, If, Else, Switch, Case, Default, While, Do, For, Goto, Continue, Break, Return}
use Rattle.c_parser.specs.Brackets.{opens, closes}
use Rattle.c_parser.specs.Kinds.{is_word}
use Rattle.c_parser.specs.Parts.{PartsLaw, past_tree, past_declaration}
use Rattle.c_parser.specs.Words.{Words, kind_in}
use Rattle.stmt_parser.specs.Balance.{is_pair, Pairs, No_token, Token_then, Pair_then, ArePairs, AreBalanced, PartsAreBalanced, StatementsAreBalanced}
use Rattle.stmt_parser.specs.Found.{Alike}
use Rattle.stmt_parser.specs.InForce.{past_optional, inside, all_inside, past_item}
use Rattle.stmt_parser.specs.Reading.{HoldsOptional, HoldsTest, HoldsStatement, HoldsCore, HoldsLead, HoldLeads, HoldsItem, HoldItems}
use Rattle.stmt_parser.proofs.InForceLemmas.{optional_blind, inside_blind, all_inside_blind, item_blind}

-- what closes a bracket is no name
pub pair_blind : (k : Kind) → (n : ℕ) → is_pair k (TypeName n) ≡ is_pair k Identifier
pair_blind OpenParen n = refl
pair_blind OpenBracket n = refl
pair_blind OpenBrace n = refl
pair_blind _ n = refl

-- one behind another
joined : (w : Words) → (ps qs : Pairs) → (a m b : ℕ) → ArePairs w ps a m → ArePairs w qs m b → AreBalanced w a b
joined w No_token qs a m b h g = record { pairs = qs; are = subst (λ i. ArePairs w qs i b) h g }
joined w (Token_then ps) qs a m b h g =
    let more = joined w ps qs (a + 1) m b h.1 g in
    record { pairs = Token_then more.pairs; are = (h.0, more.are) }
joined w (Pair_then inner ps) qs a m b h g =
    let more = joined w ps qs (h.0 + 1) m b h.4 g in
    record { pairs = Pair_then inner more.pairs; are = (h.0, h.1, h.2, h.3, more.are) }

pub join : (w : Words) → (a m b : ℕ) → AreBalanced w a m → AreBalanced w m b → AreBalanced w a b
join w a m b x y = joined w x.pairs y.pairs a m b x.are y.are

pub nothing : (w : Words) → (a b : ℕ) → b ≡ a → AreBalanced w a b
nothing w a b e = record { pairs = No_token; are = e }

pub token : (w : Words) → (a b : ℕ) → (opens (kind_in w a) || closes (kind_in w a)) ≡ false → b ≡ a + 1 → AreBalanced w a b
token w a b h e = record { pairs = Token_then No_token; are = (h, e) }

mark : (w : Words) → (a b : ℕ) → (k : Kind) → kind_in w a ≡ k → (opens k || closes k) ≡ false → b ≡ a + 1 → AreBalanced w a b
mark w a b k e h f = token w a b (ap (λ x. opens x || closes x) e ∙ h) f

word_plain : (k : Kind) → is_word k ≡ true → (opens k || closes k) ≡ false
word_plain Identifier h = refl
word_plain (TypeName n) h = refl
word_plain _ h = absurd (true≢false (sym h))

word : (w : Words) → (a b : ℕ) → is_word (kind_in w a) ≡ true → b ≡ a + 1 → AreBalanced w a b
word w a b h e = token w a b (word_plain (kind_in w a) h) e

pub pair : (w : Words) → (a c b : ℕ) → opens (kind_in w a) ≡ true → AreBalanced w (a + 1) c → is_pair (kind_in w a) (kind_in w c) ≡ true → b ≡ c + 1
    → AreBalanced w a b
pair w a c b o x e f = record { pairs = Pair_then x.pairs No_token; are = (c, o, x.are, e, f) }

-- under scopes that differ in typedef names alone
under : (v w : Words) → Alike v w → (ps : Pairs) → (a b : ℕ) → ArePairs v ps a b → ArePairs w ps a b
under v w alike No_token a b h = h
under v w alike (Token_then ps) a b h =
    (sym (alike (λ k. opens k || closes k) (λ n. refl) a) ∙ h.0, under v w alike ps (a + 1) b h.1)
under v w alike (Pair_then inner ps) a b h = (
  h.0,
  sym (alike opens (λ n. refl) a) ∙ h.1,
  under v w alike inner (a + 1) h.0 h.2,
  sym (alike (λ k. is_pair k (kind_in w h.0)) (λ n. refl) a)
      ∙ sym (alike (is_pair (kind_in v a)) (pair_blind (kind_in v a)) h.0)
      ∙ h.3,
  under v w alike ps (h.0 + 1) b h.4,
)

pub seen : (v w : Words) → Alike v w → (a b : ℕ) → AreBalanced v a b → AreBalanced w a b
seen v w alike a b x = record { pairs = x.pairs; are = under v w alike x.pairs a b x.are }

-- parts
optional_balanced : PartsAreBalanced → (w : Words) → (x : Option Tree) → (a b : ℕ) → HoldsOptional w x a b → AreBalanced w a b
optional_balanced parts w None a b h = nothing w a b h
optional_balanced parts w (Some t) a b h = parts.expression w 1 t a b h

test_balanced : PartsAreBalanced → (w : Words) → (o : ℕ) → (t : Tree) → (c a b : ℕ) → HoldsTest w o t c a b → AreBalanced w a b
test_balanced parts w o t c a b h =
    pair w a c b (ap opens h.1) (parts.expression w 1 t (a + 1) c h.2) (λ i. is_pair (h.1 i) (h.3 i)) h.4

from : (w : Words) → (a p b : ℕ) → p ≡ a → AreBalanced w p b → AreBalanced w a b
from w a p b e x = subst (λ i. AreBalanced w i b) e x

mutual
  pub statement_balanced : PartsLaw → PartsAreBalanced → (s : Statement) → (w : Words) → (a b : ℕ) → HoldsStatement w s a b → AreBalanced w a b
  statement_balanced law parts (Statement_of ls c) w a b h =
      join w a h.0 b (leads_balanced law parts ls w a h.0 h.1)
      (seen (all_inside w ls) w (λ f i n. all_inside_blind law f i w ls n) h.0 b (core_balanced law parts c (all_inside w ls) h.0 b h.2))

  core_balanced : PartsLaw → PartsAreBalanced → (c : Core) → (w : Words) → (a b : ℕ) → HoldsCore w c a b → AreBalanced w a b
  core_balanced law parts (Block_of o is c) w a b h =
      pair w a c b (ap opens h.1) (items_balanced law parts is w (a + 1) c h.2) (λ i. is_pair (h.1 i) (h.3 i)) h.4
  core_balanced law parts (Expression_of e m) w a b h = join w a m b (optional_balanced parts w e a m h.0) (mark w m b Semicolon h.1 refl h.2)
  core_balanced law parts (Goto_of k n m) w a b h =
      join w a n b (mark w a n Goto h.1 refl h.2) (join w n m b (word w n m h.3 h.4) (mark w m b Semicolon h.5 refl h.6))
  core_balanced law parts (Continue_of k m) w a b h = join w a m b (mark w a m Continue h.1 refl h.2) (mark w m b Semicolon h.3 refl h.4)
  core_balanced law parts (Break_of k m) w a b h = join w a m b (mark w a m Break h.1 refl h.2) (mark w m b Semicolon h.3 refl h.4)
  core_balanced law parts (Return_of k e m) w a b h =
      join w a (a + 1) b (mark w a (a + 1) Return h.1 refl refl)
      (join w (a + 1) m b (optional_balanced parts w e (a + 1) m h.2) (mark w m b Semicolon h.3 refl h.4))
  core_balanced law parts (Do_of k s v o t c m) w a b h =
      join w a (a + 1) b (mark w a (a + 1) Do h.1 refl refl)
      (join w (a + 1) v b (statement_balanced law parts s w (a + 1) v h.2)
      (join w v (v + 1) b (mark w v (v + 1) While h.3 refl refl)
      (join w (v + 1) m b (test_balanced parts w o t c (v + 1) m h.4) (mark w m b Semicolon h.5 refl h.6))))

  lead_balanced : PartsLaw → PartsAreBalanced → (l : Lead) → (w : Words) → (a b : ℕ) → HoldsLead w l a b → AreBalanced w a b
  lead_balanced law parts (Label_of n c) w a b h = join w a c b (word w a c h.1 h.2) (mark w c b Colon h.3 refl h.4)
  lead_balanced law parts (Case_of k t c) w a b h =
      join w a (a + 1) b (mark w a (a + 1) Case h.1 refl refl)
      (join w (a + 1) c b (parts.expression w 3 t (a + 1) c h.2) (mark w c b Colon h.3 refl h.4))
  lead_balanced law parts (Default_label_of k c) w a b h = join w a c b (mark w a c Default h.1 refl h.2) (mark w c b Colon h.3 refl h.4)
  lead_balanced law parts (If_of k o t c) w a b h =
      join w a (a + 1) b (mark w a (a + 1) If h.1 refl refl) (test_balanced parts w o t c (a + 1) b h.2)
  lead_balanced law parts (If_else_of k o t c s e) w a b h =
      join w a (a + 1) b (mark w a (a + 1) If h.2 refl refl)
      (join w (a + 1) h.0 b (test_balanced parts w o t c (a + 1) h.0 h.3)
      (join w h.0 e b (seen (past_tree w t) w (λ f i n. law.tree_blind f i w t n) h.0 e (statement_balanced law parts s (past_tree w t) h.0 e h.4))
      (mark w e b Else h.6 refl h.7)))
  lead_balanced law parts (Switch_of k o t c) w a b h =
      join w a (a + 1) b (mark w a (a + 1) Switch h.1 refl refl) (test_balanced parts w o t c (a + 1) b h.2)
  lead_balanced law parts (While_of k o t c) w a b h =
      join w a (a + 1) b (mark w a (a + 1) While h.1 refl refl) (test_balanced parts w o t c (a + 1) b h.2)
  lead_balanced law parts (For_of k o x m y n z c) w a b h =
      let v : Words = past_optional w x in
      let u : Words = past_optional v y in
      join w a o b (mark w a o For h.1 refl h.2)
      (pair w o c b (ap opens h.3)
      (join w (o + 1) m c (optional_balanced parts w x (o + 1) m h.4)
      (join w m (m + 1) c (mark w m (m + 1) Semicolon h.5 refl refl)
      (join w (m + 1) n c (seen v w (λ f i q. optional_blind law f i w x q) (m + 1) n (optional_balanced parts v y (m + 1) n h.6))
      (join w n (n + 1) c (mark w n (n + 1) Semicolon h.7 refl refl)
      (seen u w (λ f i q. optional_blind law f i v y q ∙ optional_blind law f i w x q) (n + 1) c (optional_balanced parts u z (n + 1) c h.8))))))
      (λ i. is_pair (h.3 i) (h.9 i)) h.10)
  lead_balanced law parts (For_declaring_of k o d y n z c) w a b h =
      let v : Words = past_declaration w d in
      let u : Words = past_optional v y in
      join w a o b (mark w a o For h.2 refl h.3)
      (pair w o c b (ap opens h.4)
      (join w (o + 1) h.0 c (parts.declaration w d (o + 1) h.0 h.5)
      (join w h.0 n c (seen v w (λ f i q. law.declaration_blind f i w d q) h.0 n (optional_balanced parts v y h.0 n h.6))
      (join w n (n + 1) c (mark w n (n + 1) Semicolon h.7 refl refl)
      (seen u w (λ f i q. optional_blind law f i v y q ∙ law.declaration_blind f i w d q) (n + 1) c (optional_balanced parts u z (n + 1) c h.8)))))
      (λ i. is_pair (h.4 i) (h.9 i)) h.10)

  leads_balanced : PartsLaw → PartsAreBalanced → (ls : Leads) → (w : Words) → (a b : ℕ) → HoldLeads w ls a b → AreBalanced w a b
  leads_balanced law parts No_leads w a b h = nothing w a b h
  leads_balanced law parts (Lead_then l ls) w a b h =
      join w a h.0 b (lead_balanced law parts l w a h.0 h.1)
      (seen (inside w l) w (λ f i n. inside_blind law f i w l n) h.0 b (leads_balanced law parts ls (inside w l) h.0 b h.2))

  item_balanced : PartsLaw → PartsAreBalanced → (x : Item) → (w : Words) → (a b : ℕ) → HoldsItem w x a b → AreBalanced w a b
  item_balanced law parts (Declared_of d) w a b h = parts.declaration w d a b h
  item_balanced law parts (Stated_of s) w a b h = statement_balanced law parts s w a b h

  pub items_balanced : PartsLaw → PartsAreBalanced → (is : Items) → (w : Words) → (a b : ℕ) → HoldItems w is a b → AreBalanced w a b
  items_balanced law parts No_items w a b h = nothing w a b h
  items_balanced law parts (Item_then x is) w a b h =
      join w a h.0 b (item_balanced law parts x w a h.0 h.1)
      (seen (past_item w x) w (λ f i n. item_blind law f i w x n) h.0 b (items_balanced law parts is (past_item w x) h.0 b h.2))

pub statements_balanced : PartsLaw → PartsAreBalanced → StatementsAreBalanced
statements_balanced law parts w s a b h = statement_balanced law parts s w a b h
