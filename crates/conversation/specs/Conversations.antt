-- What is known of a conversation.
use Rattle.std.specs.Prelude.{◌≡◌, [], None}
use Rattle.sessions.specs.Session.{unread, ended_by}
use Rattle.conversation.specs.declared.conversation.Conversation.{Conversation}

-- it isn't over
abbrev pub IsOpenConversation : Conversation → Type 0
IsOpenConversation c = (c.ended ≡ None) × (ended_by c.session ≡ None)

-- nothing was said in it
abbrev pub IsNewConversation : Conversation → Type 0
IsNewConversation c = IsOpenConversation c × (unread c.session ≡ []) × (c.due.items ≡ [])
