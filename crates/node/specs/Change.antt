-- The state with some of it changed and the rest kept; nothing else writes out a whole node.
use Rattle.std.specs.Prelude.{Bool, true, false, List, ℕ}
use Rattle.base.specs.Choice.{list}
use Rattle.base.specs.Limits.{width}
use Rattle.frame.specs.Frame.{sent_number, taken_number}
use Rattle.frame.specs.declared.Sent.{Sent}
use Rattle.frame.specs.declared.Taken.{Taken}
use Rattle.node.specs.declared.Stored.{Stored}
use Rattle.node.specs.declared.Confirm.{Confirm}
use Rattle.node.specs.declared.Node.{Node}

abbrev pub with_busy : Node → Bool → Node
with_busy n b =
    record {
      nodes = n.nodes;
      number = n.number;
      phase = n.phase;
      busy = b;
      sent = n.sent;
      taken = n.taken;
      pass = n.pass;
      dim = n.dim;
      flag = n.flag;
      first = n.first;
      second = n.second;
      agreed = n.agreed;
    }

abbrev pub with_sent : Node → List Sent → Node
with_sent n l =
    record {
      nodes = n.nodes;
      number = n.number;
      phase = n.phase;
      busy = n.busy;
      sent = l;
      taken = n.taken;
      pass = n.pass;
      dim = n.dim;
      flag = n.flag;
      first = n.first;
      second = n.second;
      agreed = n.agreed;
    }

abbrev pub with_taken : Node → List Taken → Node
with_taken n l =
    record {
      nodes = n.nodes;
      number = n.number;
      phase = n.phase;
      busy = n.busy;
      sent = n.sent;
      taken = l;
      pass = n.pass;
      dim = n.dim;
      flag = n.flag;
      first = n.first;
      second = n.second;
      agreed = n.agreed;
    }

-- another position, and T
abbrev pub at : Node → ℕ → ℕ → Bool → ℕ → Node
at n pass dim flag agreed =
    record {
      nodes = n.nodes;
      number = n.number;
      phase = n.phase;
      busy = n.busy;
      sent = n.sent;
      taken = n.taken;
      pass = pass;
      dim = dim;
      flag = flag;
      first = n.first;
      second = n.second;
      agreed = agreed;
    }

abbrev pub with_first : Node → List Stored → Node
with_first n l =
    record {
      nodes = n.nodes;
      number = n.number;
      phase = n.phase;
      busy = n.busy;
      sent = n.sent;
      taken = n.taken;
      pass = n.pass;
      dim = n.dim;
      flag = n.flag;
      first = l;
      second = n.second;
      agreed = n.agreed;
    }

abbrev pub with_second : Node → List Confirm → Node
with_second n l =
    record {
      nodes = n.nodes;
      number = n.number;
      phase = n.phase;
      busy = n.busy;
      sent = n.sent;
      taken = n.taken;
      pass = n.pass;
      dim = n.dim;
      flag = n.flag;
      first = n.first;
      second = l;
      agreed = n.agreed;
    }

abbrev pub no_first : Stored
no_first =
    record {
      present = false;
      sent = list 0 width (λ m. sent_number 0);
      taken = list 0 width (λ m. taken_number 0);
      issued = sent_number 0;
      received = taken_number 0;
    }

abbrev pub no_second : Confirm
no_second = record { present = false; agreed = 0; issued = sent_number 0 }

-- a fresh node (rule N4), in any phase
abbrev pub fresh_in : ℕ → ℕ → ℕ → Node
fresh_in P number phase =
    record {
      nodes = P;
      number = number;
      phase = phase;
      busy = true;
      sent = list 0 width (λ m. sent_number 0);
      taken = list 0 width (λ m. taken_number 0);
      pass = 1;
      dim = 0;
      flag = true;
      first = list 0 width (λ k. no_first);
      second = list 0 width (λ k. no_second);
      agreed = 0;
    }

-- what is given back where no node was made: no state, and the test refuses it
abbrev pub no_node : Node
no_node =
    record {
      nodes = 0;
      number = 0;
      phase = 0;
      busy = false;
      sent = list 0 width (λ m. sent_number 0);
      taken = list 0 width (λ m. taken_number 0);
      pass = 0;
      dim = 0;
      flag = false;
      first = list 0 width (λ k. no_first);
      second = list 0 width (λ k. no_second);
      agreed = 0;
    }
