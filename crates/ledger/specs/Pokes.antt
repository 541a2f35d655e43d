-- The pokes that a list of calls makes, those that are not refused. Assumes nothing.
use Rattle.std.specs.Prelude.{ℕ, cond, List, [], ◌∷◌, nat_lt}
use Rattle.machine.specs.Calls.{Call, stepping, running, resetting, counting, peeking, poking, State, Poke, does}

-- with those so far, the newest first
abbrev pub pokes_by : Call → State → List Poke → List Poke
pokes_by (stepping tick) state pokes = pokes
pokes_by (running ticks room) state pokes = pokes
pokes_by resetting state pokes = pokes
pokes_by counting state pokes = pokes
pokes_by (peeking page offset) state pokes = pokes
pokes_by (poking page offset byte) state pokes =
    cond (nat_lt page state.memory.pages) (record { page = page; offset = offset; byte = byte } ∷ pokes) pokes

abbrev pub pokes_of : List ℕ → List Call → State → List Poke → List Poke
pokes_of image [] state pokes = pokes
pokes_of image (call ∷ calls) state pokes = pokes_of image calls (does image call state) (pokes_by call state pokes)
