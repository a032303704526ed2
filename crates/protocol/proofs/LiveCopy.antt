-- Runs of the protocol: in one a station comes to hold a live copy, in the other a write is asked, accepted, takes effect and is reported done.
-- Assumes nothing.
use Rattle.std.proofs.Common.{[], refl, arith}
use mathlib.Core.List.Memᴰ
use Rattle.protocol.specs.Net.{Net}
use Rattle.protocol.specs.State.{Waiting, State}
use Rattle.protocol.specs.Runs.{new, more}
use Rattle.protocol.specs.Rules.{sound}
use Rattle.protocol.specs.Steps.{takes, submits, accepts, effects, ends}
use Rattle.protocol.specs.Witnesses.{Alive, Served}
use Rattle.protocol.proofs.Successors.{started, taking, submitting, accepting, effecting, ending}
use Rattle.protocol.proofs.Enabled.{started_new, takes_enabled}
use Rattle.protocol.proofs.EnabledWrites.{submits_enabled, accepts_enabled, effects_enabled, ends_enabled}
use Rattle.protocol.proofs.FirstGrant.{pair, first_granted, first_told, first_grant}

-- clocks that are 2 ticks off at most
abbrev net : Net
net = pair 2 2 100

module _ {Row : Type 0} (empty row : Row) where
  -- the station asks, the primary grants for 100 ticks, the station takes the GRANT

  abbrev granted : State Row
  granted = first_granted sound empty 1000 1000 1000 100

  pub alive : Alive sound Row empty 1092
  alive =
      record {
        net = net;
        history = _;
        state = taking sound net granted 1 0 1000 empty 1 100;
        run =
            more
            (first_grant sound net empty 1000 1000 1000 100 refl (record { late = omega arith; early = omega arith })
            (record { late = omega arith; early = omega arith }) (omega arith))
            (takes (takes_enabled net granted sound (first_told empty 1000) 1 0 1 1000 empty 1 100 (Memᴰ.head refl) refl));
        station = 1;
        file = 0;
        version = 1;
        copied = refl;
        live = λ r reads. omega (arith, reads.early);
      }

  -- the station submits a write, which the primary accepts; nothing holds it back

  abbrev written : Waiting Row
  written = record { station = 1; file = 0; number = 1; row = row; since = 1000 }

  abbrev s0 : State Row
  s0 = started empty 1000

  abbrev s1 : State Row
  s1 = submitting s0 1 0 row

  abbrev s2 : State Row
  s2 = accepting s1 written

  abbrev s3 : State Row
  s3 = effecting s2 written []

  pub served : Served sound Row empty row 2
  served =
      record {
        net = net;
        history = _;
        state = ending s3 1;
        run =
            more (more (more (more (new (started_new empty 1000))
            (submits (submits_enabled net s0 1 0 row (omega arith) (omega arith))))
            (accepts (accepts_enabled net s1 written (Memᴰ.head refl) (omega arith) refl)))
            (effects (effects_enabled net s2 sound written 1000 [] [] refl (record { late = omega arith; early = omega arith }) (omega arith)
            (λ c st p. omega arith))))
            (ends (ends_enabled net s3 1 0 1 row (Memᴰ.head refl) refl));
        station = 1;
        file = 0;
        number = 1;
        taken = Memᴰ.tail (Memᴰ.head refl);
        told = Memᴰ.head refl;
        row_is = refl;
        version_is = refl;
      }
