-- All that is promised, from the crates below.
use Prim.Native.Nat.{ℕ, ◌≤◌}
use native.Mathlib.Omega.{arith}
use Rattle.base.specs.Limits.{base}
use Rattle.node.proofs.Taken.{note_as_job, job_wakes}
use Rattle.node.proofs.Waiting.{wait_fails, wait_lower, wait_unstored, wait_stored}
use Rattle.events.specs.Fit.{Fit}
use Rattle.runs.proofs.Whole.{demand3}
use Rattle.runs.proofs.Facts.{every_run}
use Rattle.runs.proofs.LinkBytes.{link_bytes}
use Rattle.starred.proofs.Starred.{starred}
use Rattle.rehearsed.proofs.Whole.{every_rehearsal}
use Rattle.rehearsed.proofs.Fits.{every_text_fits}
use Rattle.recording.proofs.Survives.{survives}
use Rattle.replayed.proofs.Whole.{every_replay}
use Rattle.promises.specs.Promises.{Runs, Promises}
use Rattle.promises.proofs.AnyInput.{any_input_lem}
use Rattle.promises.proofs.Tree.{tree}
use Rattle.promises.proofs.Frames.{frames}
use Rattle.promises.proofs.Recordings.{recordings}

fit : Fit base
fit = record { room = omega arith; four = omega arith }

runs : (P : ℕ) → 1 ≤ P → P ≤ base.nodes → Runs P
runs P one few =
    record {
      safe = demand3.safe base fit P one few;
      lives = demand3.lives base fit P one few;
      facts = every_run base fit P one few;
    }

pub promises : Promises
promises =
    record {
      any_input = any_input_lem;
      kinds = record { notes = note_as_job base; jobs = job_wakes base };
      waits =
          record {
            fails = wait_fails base;
            lower = wait_lower base;
            unstored = wait_unstored base;
            stored = wait_stored base;
          };
      tree = λ P one few. tree P;
      frames = λ P one few. frames P;
      runs = runs;
      links = link_bytes;
      starred = starred;
      rehearsals = every_rehearsal;
      texts = every_text_fits;
      any_recording = recordings;
      recordings = survives;
      replays = every_replay;
    }
