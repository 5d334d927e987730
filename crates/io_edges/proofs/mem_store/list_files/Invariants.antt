use Rattle.std.proofs.Common.{◌≡◌, ◌++◌, length, map}
use Rattle.std.specs.String.{string_bytes}
use Rattle.io_edges.specs.Files.{listed}
use Rattle.io_edges.proofs.mem_store.list_files.Given as goal

abbrev pub invariant-loop-file : goal.invariant-loop-file
invariant-loop-file l = l.found.items ++ listed (map (λ f. (string_bytes f.0, f.1.items)) l.rest) l.root ≡ listed (map (λ f. (string_bytes f.0, f.1.items)) l.files) l.root

abbrev pub decreases-loop-file : goal.decreases-loop-file
decreases-loop-file l = length l.rest
