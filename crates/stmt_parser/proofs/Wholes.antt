-- Bodies that take all tokens.
use Rattle.std.proofs.Common.{◌≡◌, refl, sym, subst, ℕ, ◌<◌, ◌≤◌, List, arith, Bool, true, true≢false, length, None}
use Rattle.tree_data.specs.Statements.{Statement, Statement_of, Core, Block_of, Expression_of, Goto_of, Continue_of, Break_of, Return_of, Do_of, No_leads, Lead_then, is_closed}
use Rattle.c_parser.specs.declared.answers.ParseError.{ParseError}
use Rattle.c_parser.specs.declared.answers.ParseError.TheVariants as told
use Rattle.c_parser.specs.declared.answers.Stop.{Stop}
use Rattle.c_parser.specs.declared.answers.Stop.TheVariants as stop
use Rattle.c_parser.specs.declared.kinds.Kind.{Kind}
use Rattle.c_parser.specs.declared.kinds.Kind.TheVariants.{OpenBrace}
use Rattle.c_parser.specs.Brackets.{too_deep}
use Rattle.c_parser.specs.Parts.{PartsLaw}
use Rattle.c_parser.specs.Reading.{at_front, IsAtFront, IsRefused, IsWant, IsDeep}
use Rattle.c_parser.specs.Words.{Words, kind_in}
use Rattle.stmt_parser.specs.Bodies.{is_block, is_braced, IsBody, IsBodyMeaning, IsBodyCause, BodyReadingIsUnique}
use Rattle.stmt_parser.specs.Found.{FoundStatement, FailsStatement}
use Rattle.stmt_parser.specs.Reading.{HoldsStatement, HoldsCore, Ends}
use Rattle.stmt_parser.proofs.OneReading.{statement_only, closed_ends}

block_closed : (s : Statement) → is_block s ≡ true → is_closed s ≡ true
block_closed (Statement_of No_leads c) h = refl
block_closed (Statement_of (Lead_then l ls) c) h = absurd (true≢false (sym h))

block_ends : (w : Words) → (s : Statement) → (b : ℕ) → is_block s ≡ true → Ends w s b
block_ends w s b h = closed_ends w s b (block_closed s h)

pub bodies_unique : PartsLaw → BodyReadingIsUnique
bodies_unique law w s u h g =
    let r =
    statement_only law s w 0 (length w.kinds) h.1 (block_ends w s (length w.kinds) h.0) u (length w.kinds) g.1
    (block_ends w u (length w.kinds) g.0) in
    r.0

braced_opens : (w : Words) → (c : Core) → (a b : ℕ) → is_braced c ≡ true → HoldsCore w c a b → kind_in w a ≡ OpenBrace
braced_opens w (Block_of o is c) a b h g = g.1
braced_opens w (Expression_of e m) a b h g = absurd (true≢false (sym h))
braced_opens w (Goto_of k n m) a b h g = absurd (true≢false (sym h))
braced_opens w (Continue_of k m) a b h g = absurd (true≢false (sym h))
braced_opens w (Break_of k m) a b h g = absurd (true≢false (sym h))
braced_opens w (Return_of k e m) a b h g = absurd (true≢false (sym h))
braced_opens w (Do_of k s v o t c m) a b h g = absurd (true≢false (sym h))

block_opens : (w : Words) → (s : Statement) → (a b : ℕ) → is_block s ≡ true → HoldsStatement w s a b → kind_in w a ≡ OpenBrace
block_opens w (Statement_of No_leads c) a b h g = braced_opens w c a b h (subst (λ i. HoldsCore w c i b) g.1 g.2)
block_opens w (Statement_of (Lead_then l ls) c) a b h g = absurd (true≢false (sym h))

pub body_unopened : (w : Words) → (kind_in w 0 ≡ OpenBrace → ⊥) → (u : Statement) → IsBody w u → ⊥
body_unopened w n u h = n (block_opens w u 0 (length w.kinds) h.0 h.1)

pub front_is : (e : Stop) → IsAtFront (at_front e)
front_is (stop.Syntax at) = refl
front_is stop.NoMemory = tt

refused_front : (e : Stop) → IsWant e → IsRefused (at_front e)
refused_front (stop.Syntax at) h = h
refused_front stop.NoMemory h = tt

pub body_fails : (w : Words) → (e : Stop) → (p : ParseError) → p ≡ at_front e → FailsStatement w 0 e → (u : Statement) → IsBody w u → IsRefused p
body_fails w e p q f u h =
    subst IsRefused (sym q) (refused_front e (f u (length w.kinds) h.1 (block_ends w u (length w.kinds) h.0)))

pub body_short : PartsLaw → (w : Words) → (s : Statement) → (b : ℕ) → FoundStatement w 0 s b → b < length w.kinds → (u : Statement) → IsBody w u → ⊥
body_short law w s b f lt u h =
    let same : b ≡ length w.kinds =
    (statement_only law s w 0 b f.reads f.ends u (length w.kinds) h.1 (block_ends w u (length w.kinds) h.0)).1 in
    omega (arith, same, lt)

pub body_found : (w : Words) → (s : Statement) → (b : ℕ) → FoundStatement w 0 s b → is_block s ≡ true → length w.kinds ≤ b → IsBody w s
body_found w s b f braced le =
    let room : b ≤ length w.kinds = f.inside in
    let same : b ≡ length w.kinds = omega (arith, le, room) in
    (braced, subst (λ i. HoldsStatement w s 0 i) same f.reads)

pub is_body_meaning : PartsLaw → (w : Words) → (s : Statement) → too_deep w.kinds ≡ None → IsBody w s → IsBodyMeaning w s
is_body_meaning law w s shallow h = record { shallow = shallow; proper = h; only = λ u g. bodies_unique law w s u h g }

pub is_body_cause : (w : Words) → (e : ParseError) → too_deep w.kinds ≡ None → IsAtFront e → ((u : Statement) → IsBody w u → IsRefused e)
    → IsBodyCause w e
is_body_cause w (told.Syntax at) shallow place f = (place, shallow, f)
is_body_cause w (told.TooDeep at) shallow place f = absurd place
is_body_cause w told.NoMemory shallow place f = tt

pub deep_body_cause : (w : Words) → (e : ParseError) → IsDeep w.kinds e → IsBodyCause w e
deep_body_cause w (told.Syntax at) h = absurd h
deep_body_cause w (told.TooDeep at) h = h
deep_body_cause w told.NoMemory h = tt

abbrev pub under : List Kind → List Bool → Words
under kinds hidden = record { kinds = kinds; hidden = hidden }
