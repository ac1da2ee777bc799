-- Faults of programs for a client's enter and strike: what they do to the holdings, and whom they take for the client. Where enter, strike and a terminal's
-- enter may have a fault alike, it is said of one of them, `call`. A fault is a call that can be lent, on which it happens; where it is a way of computing,
-- it is said of every such call that is accepted.
--
--   ClientLent           ==  bytes, a client and a grid that a call is lent
--   answer_of i call on   ==  what i answers to the client's call of the grid on them
--   CallLent p           ==  bytes and a call of the kind p that can be lent
--   HeldUnwritten call i ==  an enter of a class that is held writes no holding
--   Elsewhere call i     ==  an accepted call leaves this client's holding of the class as it was
--   WrapsAt999 call i    ==  a holding of 999 becomes 0 by an enter that passes the questions before 16
--   first_holder h        ==  the first client that holds some
--   StrikesFirstHolder i ==  a strike is that of the first client that holds the class
--   StrikesAll i         ==  a strike takes all that this client holds of the class
--   StrikesLine i        ==  a strike takes the line, whoever else holds the class
--   KeepsEmptyLine i     ==  after a strike a line stands whose holdings are all 0
--   HeldByAnyone i       ==  a strike of a class that others hold, and not this client, is accepted
--   ClientsModulo n call i  ==  clients are taken modulo n
--   MostOfAnyone call i  ==  an enter that passes its questions is refused by 16, another client's holding of the class being 999
--   AddsTwo call i, TakesTwo call i  ==  this client's holding of a grid gets two more, two fewer
--   GivesNext call i, TakesNext call i  ==  the next client's gets one more, one fewer
--   ChangesOther laid k p i  ==  a call that does not name client k changes k's holding of a grid, on bytes that are laid out or not, as `laid` says
--   ByTwo x y            ==  x and y are two or more apart
--   ChangesByTwo laid k p i  ==  a call changes client k's holding of a grid by two or more, on such bytes
--   each_client           ==  the clients
--   changes_of p          ==  those of each client, of the kind p
--   holding_faults, client_faults, change_faults  ==  these, against demand 3, against demand 1, and against what a call does to holdings
use Rattle.std.specs.Prelude.{◌≡◌, Bool, true, false, ◌⊎◌, ℕ, zero, suc, ◌+◌, ◌≤◌, eqb}
use mathlib.Core.List.{List, [], ◌∷◌, ◌++◌, map, Memᴰ}
use Rattle.permutations.specs.Lists.{tabulate}
use Rattle.grids.specs.Lent.{Bytes, IsWord}
use Rattle.grids.specs.Questions.{first_no}
use Rattle.layout.specs.Layout.{Entry, clients, most_held, grids_of, decode_shape, decode, some_held, laid_out}
use Rattle.calls.specs.Entries.{holds, question9, client_questions}
use Rattle.calls.specs.Calls.{Outcome, struck, accepted}
use Rattle.machine.specs.CallLists.{Call, enter, strike, terminal_enter, Implementation, LentCall, called, questions_of}
use Rattle.machine.specs.Holdings.{names, held_in, Apart, ByOne}
use Rattle.machine.specs.Demand1.{Demand1}
use Rattle.machine.specs.Demand3.{Demand3}
use Rattle.turned_down.specs.Faults.{Fault, fault}
use Rattle.turned_down.specs.RegisterFaults.{ClientReached, answer_at, class_on, class_held, Made, calling, is_enter, is_strike, is_count, is_terminal_enter}

pub record ClientLent : Type 0 where
  pub register : List ℕ
  pub client : ℕ
  pub grid : List ℕ
  pub register-bytes : Bytes register
  pub client-word : IsWord client
  pub grid-bytes : Bytes grid

abbrev pub answer_of : Implementation → (ℕ → List ℕ → Call) → ClientLent → Outcome
answer_of i call on = called i on.register (call on.client on.grid)

pub record CallLent (p : Made → Bool) : Type 0 where
  pub register : List ℕ
  pub call : Call
  pub kind : p (calling register call) ≡ true
  pub register-bytes : Bytes register
  pub call-lent : LentCall call

-- ---- what is written, by demand 3

pub record HeldUnwritten (call : ℕ → List ℕ → Call) (i : Implementation) : Type 0 where
  pub on : ClientReached i
  pub held : (answer_at i call on).number ≡ 101
  pub kept : (answer_at i call on).bytes ≡ on.from.register

pub record Elsewhere (call : ℕ → List ℕ → Call) (i : Implementation) : Type 0 where
  pub on : ClientReached i
  pub taken : accepted (answer_at i call on).number ≡ true
  pub kept : held_in (answer_at i call on).bytes on.client (class_on on.from.register on.grid) ≡ held_in on.from.register on.client (class_on on.from.register on.grid)

pub record WrapsAt999 (call : ℕ → List ℕ → Call) (i : Implementation) : Type 0 where
  pub on : ClientReached i
  pub asked : first_no (client_questions (decode_shape on.from.register) on.client on.grid) ≡ 0
  pub room : (question9 (decode on.from.register) (class_on on.from.register on.grid)).answer ≡ true
  pub most : held_in on.from.register on.client (class_on on.from.register on.grid) ≡ most_held
  pub wrapped : held_in (answer_at i call on).bytes on.client (class_on on.from.register on.grid) ≡ 0

unfoldable pub first_holder : List ℕ → ℕ
first_holder [] = 1
first_holder (zero ∷ h) = suc (first_holder h)
first_holder (suc x ∷ h) = 1

pub record StrikesFirstHolder (i : Implementation) : Type 0 where
  pub on : ClientReached i
  pub taken : (answer_at i strike on).number ≡ 0
  pub other : eqb (first_holder (class_held on.from.register on.grid)) on.client ≡ false
  pub first : (answer_at i strike on).bytes ≡ (struck on.from.register (first_holder (class_held on.from.register on.grid)) on.grid).bytes

pub record StrikesAll (i : Implementation) : Type 0 where
  pub on : ClientReached i
  pub taken : (answer_at i strike on).number ≡ 0
  pub several : 2 ≤ held_in on.from.register on.client (class_on on.from.register on.grid)
  pub none : held_in (answer_at i strike on).bytes on.client (class_on on.from.register on.grid) ≡ 0

pub record StrikesLine (i : Implementation) : Type 0 where
  pub on : ClientReached i
  pub taken : (answer_at i strike on).number ≡ 0
  pub other : ℕ
  pub other-client : (1 ≤ other) × (eqb on.client other ≡ false)
  pub holder : 1 ≤ held_in on.from.register other (class_on on.from.register on.grid)
  pub gone : holds (class_on on.from.register on.grid) (grids_of (decode (answer_at i strike on).bytes).entries) ≡ false

pub record KeepsEmptyLine (i : Implementation) : Type 0 where
  pub on : ClientReached i
  pub taken : (answer_at i strike on).number ≡ 0
  pub entry : Entry
  pub stands : Memᴰ entry (decode (answer_at i strike on).bytes).entries
  pub empty : some_held entry.holdings ≡ false

pub record HeldByAnyone (i : Implementation) : Type 0 where
  pub on : ClientReached i
  pub asked : first_no (client_questions (decode_shape on.from.register) on.client on.grid) ≡ 0
  pub none : held_in on.from.register on.client (class_on on.from.register on.grid) ≡ 0
  pub anyone : holds (class_on on.from.register on.grid) (grids_of (decode on.from.register).entries) ≡ true
  pub taken : accepted (answer_at i strike on).number ≡ true

-- ---- what is asked, by demand 1

unfoldable pub ClientsModulo : ℕ → (ℕ → List ℕ → Call) → Implementation → Type 0
ClientsModulo n call i =
    (on : ClientLent) → IsWord (n + on.client) → 1 ≤ on.client → accepted (answer_of i call on).number ≡ true →
    called i on.register (call (n + on.client) on.grid) ≡ answer_of i call on

pub record MostOfAnyone (call : ℕ → List ℕ → Call) (i : Implementation) : Type 0 where
  pub on : ClientLent
  pub asked : first_no (questions_of on.register (call on.client on.grid)) ≡ 0
  pub other : ℕ
  pub most : held_in on.register other (class_on on.register on.grid) ≡ most_held
  pub refused : (answer_of i call on).number ≡ 16

-- ---- what a call does to holdings

pub record AddsTwo (call : ℕ → List ℕ → Call) (i : Implementation) : Type 0 where
  pub on : ClientLent
  pub named : 1 ≤ on.client
  pub held-grid : List ℕ
  pub added : held_in (answer_of i call on).bytes on.client held-grid ≡ held_in on.register on.client held-grid + 2

pub record TakesTwo (call : ℕ → List ℕ → Call) (i : Implementation) : Type 0 where
  pub on : ClientLent
  pub named : 1 ≤ on.client
  pub held-grid : List ℕ
  pub taken : held_in (answer_of i call on).bytes on.client held-grid + 2 ≡ held_in on.register on.client held-grid

pub record GivesNext (call : ℕ → List ℕ → Call) (i : Implementation) : Type 0 where
  pub on : ClientLent
  pub held-grid : List ℕ
  pub given : held_in (answer_of i call on).bytes (suc on.client) held-grid ≡ held_in on.register (suc on.client) held-grid + 1

pub record TakesNext (call : ℕ → List ℕ → Call) (i : Implementation) : Type 0 where
  pub on : ClientLent
  pub held-grid : List ℕ
  pub taken : held_in (answer_of i call on).bytes (suc on.client) held-grid + 1 ≡ held_in on.register (suc on.client) held-grid

pub record ChangesOther (laid : Bool) (k : ℕ) (p : Made → Bool) (i : Implementation) : Type 0 where
  pub on : CallLent p
  pub state : laid_out on.register ≡ laid
  pub unnamed : names k on.call ≡ false
  pub held-grid : List ℕ
  pub changed : held_in (called i on.register on.call).bytes k held-grid ≡ held_in on.register k held-grid → ⊥

abbrev pub ByTwo : ℕ → ℕ → Type 0
ByTwo x y = (x + 2 ≤ y) ⊎ (y + 2 ≤ x)

pub record ChangesByTwo (laid : Bool) (k : ℕ) (p : Made → Bool) (i : Implementation) : Type 0 where
  pub on : CallLent p
  pub state : laid_out on.register ≡ laid
  pub held-grid : List ℕ
  pub changed : ByTwo (held_in on.register k held-grid) (held_in (called i on.register on.call).bytes k held-grid)

-- ---- as a list

abbrev pub each_client : List ℕ
each_client = tabulate 1 clients (λ k. k)

-- by demand 3, of what the calls write: 101 without the holding written, the holding written elsewhere or wrapped at 999
unfoldable pub holding_faults : List Fault
holding_faults =
    fault Demand3 (HeldUnwritten enter)
    ∷ fault Demand3 (HeldUnwritten terminal_enter)
    ∷ fault Demand3 (Elsewhere enter)
    ∷ fault Demand3 (Elsewhere strike)
    ∷ fault Demand3 (Elsewhere terminal_enter)
    ∷ fault Demand3 (WrapsAt999 enter)
    ∷ fault Demand3 (WrapsAt999 terminal_enter)
    -- strikes: of the first that holds, of all that is held, of the line, with the line left; 10 asked of anyone
    ∷ fault Demand3 StrikesFirstHolder
    ∷ fault Demand3 StrikesAll
    ∷ fault Demand3 StrikesLine
    ∷ fault Demand3 KeepsEmptyLine
    ∷ fault Demand3 HeldByAnyone
    ∷ []

-- by demand 1: clients taken modulo a number, 16 by what any client holds
unfoldable pub client_faults : List Fault
client_faults =
    fault Demand1 (ClientsModulo 8 enter)
    ∷ fault Demand1 (ClientsModulo 8 strike)
    ∷ fault Demand1 (ClientsModulo 8 terminal_enter)
    ∷ fault Demand1 (ClientsModulo 256 enter)
    ∷ fault Demand1 (ClientsModulo 256 strike)
    ∷ fault Demand1 (ClientsModulo 256 terminal_enter)
    ∷ fault Demand1 (ClientsModulo 65536 enter)
    ∷ fault Demand1 (ClientsModulo 65536 strike)
    ∷ fault Demand1 (ClientsModulo 65536 terminal_enter)
    ∷ fault Demand1 (MostOfAnyone enter)
    ∷ fault Demand1 (MostOfAnyone terminal_enter)
    ∷ []

-- of each client, and on bytes laid out or not
unfoldable pub changes_of : (Made → Bool) → List Fault
changes_of p =
    map (λ (k : ℕ). fault Apart (ChangesOther true k p)) each_client
    ++ (map (λ (k : ℕ). fault Apart (ChangesOther false k p)) each_client
    ++ (map (λ (k : ℕ). fault ByOne (ChangesByTwo true k p)) each_client
    ++ map (λ (k : ℕ). fault ByOne (ChangesByTwo false k p)) each_client))

-- by what a call does to the holdings that any bytes state: another client's changed, or a client's by two
unfoldable pub change_faults : List Fault
change_faults =
    fault Apart (GivesNext enter)
    ∷ fault Apart (GivesNext terminal_enter)
    ∷ fault Apart (TakesNext strike)
    ∷ fault ByOne (AddsTwo enter)
    ∷ fault ByOne (AddsTwo terminal_enter)
    ∷ fault ByOne (TakesTwo strike)
    ∷ (changes_of is_enter ++ (changes_of is_strike ++ (changes_of is_count ++ changes_of is_terminal_enter)))
