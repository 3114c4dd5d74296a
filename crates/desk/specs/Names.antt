-- Of which commands the TSTInfo of a reservation names the identity in force.
use Rattle.book.specs.History.{History}
use Rattle.desk.specs.Command.{Setting, Command, Stamp, Begin, Finish, Abandon, Deposit, Show, Token, ListAll, Grant}
use Rattle.desk.specs.{Command.Revoke, Command.Calibrate, Command.Hold, Command.Succeed, Succession.IsNameable}

-- Where a command reserves and TSTInfos name the identity in force, it is the one that was installed last.
abbrev pub IsNameableFor : Setting → Command → History → Type 0
IsNameableFor s (Stamp account reading octets) b = IsNameable s b
IsNameableFor s (Begin account reading octets) b = IsNameable s b
IsNameableFor s (Deposit a reading reference bytes) b = IsNameable s b
IsNameableFor s (Finish p signature) b = Unit {0}
IsNameableFor s (Abandon p) b = Unit {0}
IsNameableFor s (Show a n) b = Unit {0}
IsNameableFor s (Token a n) b = Unit {0}
IsNameableFor s (ListAll a) b = Unit {0}
IsNameableFor s (Grant a n reader) b = Unit {0}
IsNameableFor s (Revoke a n reader) b = Unit {0}
IsNameableFor s (Calibrate c) b = Unit {0}
IsNameableFor s (Hold h) b = Unit {0}
IsNameableFor s (Succeed next) b = Unit {0}
