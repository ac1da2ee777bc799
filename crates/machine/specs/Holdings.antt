-- What a call does to the holdings that the register's bytes state: the other clients' never change, and this client's by at most 1.
--
--   names k c      ==  the call c names client k
--   held_in b k r  ==  client k's holding of the grid r, as the bytes state it
--   Apart i        ==  a call changes no holding of a client that it does not name, on all bytes
--   ByOne i        ==  and none by more than 1
use Rattle.std.specs.Prelude.{◌≡◌, List, Bool, false, ℕ, ◌+◌, ◌≤◌, eqb}
use Rattle.grids.specs.Lent.{Bytes}
use Rattle.layout.specs.Layout.{decode}
use Rattle.calls.specs.Entries.{held_by}
use Rattle.machine.specs.CallLists.{Call, enter, strike, count_in, terminal_enter, Implementation, LentCall, called}

unfoldable pub names : ℕ → Call → Bool
names k (enter c g) = eqb c k
names k (strike c g) = eqb c k
names k (count_in low high) = false
names k (terminal_enter c g) = eqb c k

unfoldable pub held_in : List ℕ → ℕ → List ℕ → ℕ
held_in b k r = held_by k r (decode b).entries

unfoldable pub Apart : Implementation → Type 0
Apart i = (b : List ℕ) (c : Call) → Bytes b → LentCall c → (k : ℕ) → 1 ≤ k → names k c ≡ false → (r : List ℕ) → held_in (called i b c).bytes k r ≡ held_in b k r

unfoldable pub ByOne : Implementation → Type 0
ByOne i =
    (b : List ℕ) (c : Call) → Bytes b → LentCall c → (k : ℕ) → 1 ≤ k → (r : List ℕ) →
    (held_in (called i b c).bytes k r ≤ held_in b k r + 1) × (held_in b k r ≤ held_in (called i b c).bytes k r + 1)
