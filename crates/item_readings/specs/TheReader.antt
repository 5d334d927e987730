-- A reader that is one: it goes through all that may stand at the front, and takes what takes all tokens. How it finds a tree is of no matter: the law says
-- that it does, and that there is none where it gives none.
use Rattle.std.proofs.Common.{◌≡◌, refl, subst, ℕ, true, length, Option, Some, None}
use Rattle.tree_data.specs.Statements.{Statement}
use Rattle.tree_data.specs.Trees.{Heading}
use Rattle.c_parser.specs.Heads.{HoldsHead}
use Rattle.c_parser.specs.Words.{Words}
use Rattle.stmt_parser.specs.Bodies.{is_block}
use Rattle.stmt_parser.specs.Reading.{HoldsStatement}
use Rattle.item_readings.specs.Search.Deciding.{and_then, dec_bool, dec_number}
use Rattle.item_readings.specs.Readings.{IsHeadOf, IsBodyOf, Reader, IsReader}
use Rattle.item_readings.specs.Search.Heads.{any_head}
use Rattle.item_readings.specs.Search.AllStatements.{any_statement}

abbrev SomeHead : Words → Type 0
SomeHead w = (h : Heading) × (e : ℕ) × HoldsHead w h 0 e × (e ≡ length w.kinds)

some_head : (w : Words) → Dec (SomeHead w)
some_head w = any_head w 0 (λ h e. e ≡ length w.kinds) (λ h e x u. dec_number e (length w.kinds))

head_of : (w : Words) → Dec (SomeHead w) → Option Heading
head_of w (yes x) = Some x.0
head_of w (no n) = None

is_head : (w : Words) → (d : Dec (SomeHead w)) → IsHeadOf w (head_of w d)
unfolding head_of
is_head w (yes x) = subst (λ e. HoldsHead w x.0 0 e) x.3 x.2
is_head w (no n) = λ u h. n (u, length w.kinds, h, refl)

abbrev SomeBody : Words → Type 0
SomeBody w = (s : Statement) × (e : ℕ) × HoldsStatement w s 0 e × ((is_block s ≡ true) × (e ≡ length w.kinds))

some_body : (w : Words) → Dec (SomeBody w)
some_body w =
    any_statement w 0 (λ s e. (is_block s ≡ true) × (e ≡ length w.kinds)) (λ s e x u.
    and_then (dec_bool (is_block s) true) (λ y. dec_number e (length w.kinds)))

body_of : (w : Words) → Dec (SomeBody w) → Option Statement
body_of w (yes x) = Some x.0
body_of w (no n) = None

is_body : (w : Words) → (d : Dec (SomeBody w)) → IsBodyOf w (body_of w d)
unfolding body_of
is_body w (yes x) = (x.3.0, subst (λ e. HoldsStatement w x.0 0 e) x.3.1 x.2)
is_body w (no n) = λ u h. n (u, length w.kinds, h.1, (h.0, refl))

pub the_reader : Reader
the_reader = record { head = λ w. head_of w (some_head w); body = λ w. body_of w (some_body w) }

-- it is a reader
pub is_reader : IsReader the_reader
unfolding the_reader
is_reader = record { heads = λ w. is_head w (some_head w); bodies = λ w. is_body w (some_body w) }
