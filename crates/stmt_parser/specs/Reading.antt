-- The grammar of statements (ISO C11 6.8): a tree stands from one place to another, a case a production. Under each part stand the
-- identifiers in force where it begins.
use Rattle.std.specs.Prelude.{◌≡◌, ℕ, ◌+◌, Bool, true, false, Option, Some, None}
use Rattle.tree_data.specs.Trees.{Tree}
use Rattle.tree_data.specs.Statements.{Statement, Statement_of, Core, Block_of, Expression_of, Goto_of, Continue_of, Break_of, Return_of, Do_of, Lead, Label_of, Case_of, Default_label_of, If_of, If_else_of, Switch_of, While_of, For_of, For_declaring_of, Leads, No_leads, Lead_then, Item, Declared_of, Stated_of, Items, No_items, Item_then, is_closed}
use Rattle.c_parser.specs.declared.kinds.Kind.{Kind}
use Rattle.c_parser.specs.declared.kinds.Kind.TheVariants.{OpenParen, CloseParen, OpenBrace, CloseBrace, Colon, Semicolon, If, Else, Switch, Case, Default, While, Do, For, Goto, Continue, Break, Return}
use Rattle.c_parser.specs.Kinds.{is_word}
use Rattle.c_parser.specs.Parts.{HoldsDeclaration, past_tree, past_declaration}
use Rattle.c_parser.specs.Reading.{Reads}
use Rattle.c_parser.specs.Words.{Words, shown_from, kind_in}
use Rattle.stmt_parser.specs.InForce.{past_optional, inside, all_inside, past_item}

-- expression opt
abbrev pub HoldsOptional : Words → Option Tree → ℕ → ℕ → Type 0
HoldsOptional w None a b = b ≡ a
HoldsOptional w (Some t) a b = Reads (shown_from w a) 1 t a b

-- ( expression )
abbrev pub HoldsTest : Words → ℕ → Tree → ℕ → ℕ → ℕ → Type 0
HoldsTest w o t c a b =
    (o ≡ a) × (kind_in w a ≡ OpenParen) × Reads (shown_from w (a + 1)) 1 t (a + 1) c × (kind_in w c ≡ CloseParen) × (b ≡ c + 1)

abbrev mutual
  -- 6.8 statement : labeled-statement | compound-statement | expression-statement | selection-statement | iteration-statement
  -- | jump-statement
  pub HoldsStatement : Words → Statement → ℕ → ℕ → Type 0
  HoldsStatement w (Statement_of ls c) a b = (m : ℕ) × HoldLeads w ls a m × HoldsCore (all_inside w ls) c m b

  pub HoldsCore : Words → Core → ℕ → ℕ → Type 0
  -- 6.8.2 compound-statement : { block-item-list opt }
  HoldsCore w (Block_of o is c) a b =
      (o ≡ a) × (kind_in w a ≡ OpenBrace) × HoldItems w is (a + 1) c × (kind_in w c ≡ CloseBrace) × (b ≡ c + 1)
  -- 6.8.3 expression-statement : expression opt ;
  HoldsCore w (Expression_of e m) a b = HoldsOptional w e a m × (kind_in w m ≡ Semicolon) × (b ≡ m + 1)
  -- 6.8.6 jump-statement : goto identifier ;
  HoldsCore w (Goto_of k n m) a b =
      (k ≡ a) × (kind_in w a ≡ Goto) × (n ≡ a + 1) × (is_word (kind_in w n) ≡ true) × (m ≡ n + 1)
      × (kind_in w m ≡ Semicolon) × (b ≡ m + 1)
  -- 6.8.6 jump-statement : continue ;
  HoldsCore w (Continue_of k m) a b =
      (k ≡ a) × (kind_in w a ≡ Continue) × (m ≡ a + 1) × (kind_in w m ≡ Semicolon) × (b ≡ m + 1)
  -- 6.8.6 jump-statement : break ;
  HoldsCore w (Break_of k m) a b =
      (k ≡ a) × (kind_in w a ≡ Break) × (m ≡ a + 1) × (kind_in w m ≡ Semicolon) × (b ≡ m + 1)
  -- 6.8.6 jump-statement : return expression opt ;
  HoldsCore w (Return_of k e m) a b =
      (k ≡ a) × (kind_in w a ≡ Return) × HoldsOptional w e (a + 1) m × (kind_in w m ≡ Semicolon) × (b ≡ m + 1)
  -- 6.8.5 iteration-statement : do statement while ( expression ) ;
  HoldsCore w (Do_of k s v o t c m) a b =
      (k ≡ a) × (kind_in w a ≡ Do) × HoldsStatement w s (a + 1) v × (kind_in w v ≡ While) × HoldsTest w o t c (v + 1) m
      × (kind_in w m ≡ Semicolon) × (b ≡ m + 1)

  pub HoldsLead : Words → Lead → ℕ → ℕ → Type 0
  -- 6.8.1 labeled-statement : identifier : statement
  HoldsLead w (Label_of n c) a b =
      (n ≡ a) × (is_word (kind_in w a) ≡ true) × (c ≡ a + 1) × (kind_in w c ≡ Colon) × (b ≡ c + 1)
  -- 6.8.1 labeled-statement : case constant-expression : statement
  HoldsLead w (Case_of k t c) a b =
      (k ≡ a) × (kind_in w a ≡ Case) × Reads (shown_from w (a + 1)) 3 t (a + 1) c × (kind_in w c ≡ Colon) × (b ≡ c + 1)
  -- 6.8.1 labeled-statement : default : statement
  HoldsLead w (Default_label_of k c) a b =
      (k ≡ a) × (kind_in w a ≡ Default) × (c ≡ a + 1) × (kind_in w c ≡ Colon) × (b ≡ c + 1)
  -- 6.8.4 selection-statement : if ( expression ) statement
  HoldsLead w (If_of k o t c) a b = (k ≡ a) × (kind_in w a ≡ If) × HoldsTest w o t c (a + 1) b
  -- 6.8.4 selection-statement : if ( expression ) statement else statement, in which the first statement ends in no `if` that has no
  -- `else` (6.8.4.1p3)
  HoldsLead w (If_else_of k o t c s e) a b =
      (m : ℕ) × (k ≡ a) × (kind_in w a ≡ If) × HoldsTest w o t c (a + 1) m
      × HoldsStatement (past_tree w t) s m e × (is_closed s ≡ true) × (kind_in w e ≡ Else) × (b ≡ e + 1)
  -- 6.8.4 selection-statement : switch ( expression ) statement
  HoldsLead w (Switch_of k o t c) a b = (k ≡ a) × (kind_in w a ≡ Switch) × HoldsTest w o t c (a + 1) b
  -- 6.8.5 iteration-statement : while ( expression ) statement
  HoldsLead w (While_of k o t c) a b = (k ≡ a) × (kind_in w a ≡ While) × HoldsTest w o t c (a + 1) b
  -- 6.8.5 iteration-statement : for ( expression opt ; expression opt ; expression opt ) statement
  HoldsLead w (For_of k o x m y n z c) a b =
      (k ≡ a) × (kind_in w a ≡ For) × (o ≡ a + 1) × (kind_in w o ≡ OpenParen)
      × HoldsOptional w x (o + 1) m × (kind_in w m ≡ Semicolon)
      × HoldsOptional (past_optional w x) y (m + 1) n × (kind_in w n ≡ Semicolon)
      × HoldsOptional (past_optional (past_optional w x) y) z (n + 1) c × (kind_in w c ≡ CloseParen) × (b ≡ c + 1)
  -- 6.8.5 iteration-statement : for ( declaration expression opt ; expression opt ) statement
  HoldsLead w (For_declaring_of k o d y n z c) a b =
      (m : ℕ) × (k ≡ a) × (kind_in w a ≡ For) × (o ≡ a + 1) × (kind_in w o ≡ OpenParen)
      × HoldsDeclaration w d (o + 1) m
      × HoldsOptional (past_declaration w d) y m n × (kind_in w n ≡ Semicolon)
      × HoldsOptional (past_optional (past_declaration w d) y) z (n + 1) c × (kind_in w c ≡ CloseParen) × (b ≡ c + 1)

  pub HoldLeads : Words → Leads → ℕ → ℕ → Type 0
  HoldLeads w No_leads a b = b ≡ a
  HoldLeads w (Lead_then l ls) a b = (m : ℕ) × HoldsLead w l a m × HoldLeads (inside w l) ls m b

  -- 6.8.2 block-item : declaration | statement
  pub HoldsItem : Words → Item → ℕ → ℕ → Type 0
  HoldsItem w (Declared_of d) a b = HoldsDeclaration w d a b
  HoldsItem w (Stated_of s) a b = HoldsStatement w s a b

  -- 6.8.2 block-item-list : block-item | block-item-list block-item, or none
  pub HoldItems : Words → Items → ℕ → ℕ → Type 0
  HoldItems w No_items a b = b ≡ a
  HoldItems w (Item_then i is) a b = (m : ℕ) × HoldsItem w i a m × HoldItems (past_item w i) is m b

abbrev pub is_else : Kind → Bool
is_else Else = true
is_else _ = false

-- behind an expression in a statement stands such a token
abbrev pub ends_expression : Kind → Bool
ends_expression Semicolon = true
ends_expression CloseParen = true
ends_expression Colon = true
ends_expression _ = false

-- a statement that an `else` could go on has none behind it
abbrev pub Ends : Words → Statement → ℕ → Type 0
Ends w s b = is_closed s ≡ false → is_else (kind_in w b) ≡ true → ⊥
