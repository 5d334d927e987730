-- The calls that a store in memory keeps, as calls of a store.
use Rattle.io_edges.specs.Store.{Call, ListCall, ReadCall}
use Rattle.io_edges.specs.declared.mem_store.Made.{Made}
use Rattle.io_edges.specs.declared.mem_store.Made.TheVariants.{List as ListMade, Read as ReadMade}

abbrev pub made_call : Made → Call
made_call (ListMade root) = ListCall root
made_call (ReadMade path) = ReadCall path
