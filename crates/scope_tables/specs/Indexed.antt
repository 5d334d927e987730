-- What the table keeps: the index has the newest binding of each name, and each entry the one that it hides.
use Rattle.std.specs.Prelude.{◌≡◌, ◌<◌, ℕ, List, length, get_or, take, map}
use Rattle.type_data.specs.declared.members.Space.{Space}
use Rattle.scope_tables.specs.Places.{newest, place_at}
use Rattle.scope_tables.specs.declared.bindings.Binding.{Binding}
use Rattle.scope_tables.specs.declared.index.Index.{Index}
use Rattle.scope_tables.specs.declared.table.Entry.{Entry}

abbrev pub binding_of : Entry → Binding
binding_of e = e.binding

pub record IsIndexed (es : List Entry) (index : Index) : Type 0 where
  pub seen : (s : Space) (q : List ℕ) → place_at index s q ≡ newest s q (map binding_of es)
  pub hidden : (i : ℕ) (d : Entry) → i < length es
      → (get_or es i d).hidden ≡ newest (get_or es i d).binding.space (get_or es i d).binding.name (take i (map binding_of es))
