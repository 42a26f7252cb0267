use Rattle.std.proofs.Common.{◌≡◌, ◌+◌, ◌-◌, ◌≤◌, length}
use Rattle.semgus_app.proofs.Reading.{IsFeeding}
use Rattle.semgus_app.proofs.read.feed_to_limit.Given as goal

-- a first part of the file was fed, and nothing failed
abbrev pub invariant-loop-count : goal.invariant-loop-count
invariant-loop-count g l = record {
  size : length l.chunk ≡ 4096;
  within : l.count ≤ l.most;
  feeding : IsFeeding g.T.Feed.was_fed (g.F.Files.left l.fn.files) (g.F.Files.left l.files) l.count l.fed;
  faultless : g.F.Files.read_faults l.files ≡ g.F.Files.read_faults l.fn.files;
  open_faults : g.F.Files.open_faults l.files ≡ g.F.Files.open_faults l.fn.files;
  taken : g.F.Files.taken l.files ≤ g.F.Files.taken l.fn.files + l.count;
  held : g.F.Files.held l.files ≡ g.F.Files.held l.fn.files;
  steady : g.F.Files.steady l.files ≡ g.F.Files.steady l.fn.files;
}

abbrev pub decreases-loop-count : goal.decreases-loop-count
decreases-loop-count g l = l.most - l.count
