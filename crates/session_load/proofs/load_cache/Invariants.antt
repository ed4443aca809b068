-- `session_load::load_cache` meets its contract. The loop's invariant: the rows of the turns before i stand in the cache. Assumes nothing.
use Rattle.session_file.specs.Sizes.{rows_of}
use Rattle.session_file.specs.Reader.{file_cell}
use Rattle.session_reader.proofs.Loads.{LoadedTo}
use Rattle.session_load.proofs.load_cache.Given as goal

abbrev pub invariant-loop-i : goal.invariant-loop-i
invariant-loop-i l =
    LoadedTo (rows_of l.sizes) l.n l.size (file_cell l.sizes l.file l.behind) l.cache l.i
