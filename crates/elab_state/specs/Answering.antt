-- What the names of a part denote in front of its item stands in the scope of the file (ISO C11 6.2.1p4), as if it had been declared there: what
-- the part declares again is then the same (6.2.2p4, 6.7p3). It isn't noted as declared.
use Rattle.std.specs.Prelude.{is_some, List, [], ◌∷◌, Option, None, Some, if◌then◌else◌}
use Rattle.asking.specs.Asking.{Answers}
use Rattle.asking.specs.LookUps.{LookUp}
use Rattle.scope_tables.specs.Scopes.{here}
use Rattle.scope_tables.specs.declared.entities.Entity.{Entity}
use Rattle.elab_state.specs.declared.wants.Wanted.{Wanted}
use Rattle.elab_state.specs.Binds.{put}
use Rattle.elab_state.specs.Doings.{Made}
use Rattle.elab_state.specs.Wants.{wants}

abbrev pub standing : Wanted → Option Entity → Made → Made
standing q None m = m
standing q (Some e) m = put (record { space = q.space; name = q.name; entity = e }) m

-- what is asked again is answered the same
abbrev pub with_answer : Wanted → Option Entity → Made → Made
with_answer q a m = if is_some (here q.space q.name m.names) then m else standing q a m

abbrev pub with_answers : (qs : List Wanted) → Answers wants qs → Made → Made
with_answers [] answers m = m
with_answers (q ∷ qs) answers m = with_answers qs answers.1 (with_answer q answers.0 m)

-- ---- the same of answers that are looked up

abbrev pub or_nothing : Option (Option Entity) → Option Entity
or_nothing None = None
or_nothing (Some a) = a

abbrev pub with_answered : LookUp wants → List Wanted → Made → Made
with_answered look [] m = m
with_answered look (q ∷ qs) m = with_answered look qs (with_answer q (or_nothing (look q)) m)
