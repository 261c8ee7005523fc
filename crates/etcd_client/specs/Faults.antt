-- The faults of calls.
use Rattle.etcd_messages.specs.declared.fault.AnswerFault.{AnswerFault}
use Rattle.etcd_messages.specs.declared.fault.AnswerFault.TheVariants as answers
use Rattle.etcd_messages.specs.declared.fault.Unread.{Unread}
use Rattle.etcd_messages.specs.declared.fault.Unread.TheVariants as unread
use Rattle.shared_log.specs.declared.fault.LogFault.{LogFault}
use Rattle.shared_log.specs.declared.fault.LogFault.TheVariants as logs
use Rattle.http_exchange.specs.declared.fault.ExchangeFault.{ExchangeFault}
use Rattle.http_exchange.specs.declared.fault.ExchangeFault.TheVariants as exchanges
use Rattle.etcd_client.specs.declared.fault.CallFault.{CallFault}
use Rattle.etcd_client.specs.declared.fault.CallFault.TheVariants as calls

-- what the fault of an answer is for one who uses the log
abbrev pub answer_fault : AnswerFault → LogFault
answer_fault answers.NoQuorum = logs.NoQuorum
answer_fault answers.BadToken = logs.Refused
answer_fault answers.Forbidden = logs.Refused
answer_fault answers.BadLogin = logs.Refused
answer_fault (answers.BadStatus status) = logs.BadAnswer
answer_fault answers.TooLong = logs.BadAnswer
answer_fault answers.BadJson = logs.BadAnswer
answer_fault (answers.BadMember member) = logs.BadAnswer

-- what a fault is for one who uses the log
abbrev pub log_fault : CallFault → LogFault
log_fault calls.Open = logs.Unreachable
log_fault calls.Write = logs.Unreachable
log_fault calls.Read = logs.Unreachable
log_fault calls.Ended = logs.Unreachable
log_fault calls.BadMessage = logs.BadAnswer
log_fault calls.TooLong = logs.BadAnswer
log_fault (calls.Answer fault) = answer_fault fault
log_fault calls.NoMemory = logs.NoMemory

-- why an answer was not read
abbrev pub call_fault : Unread → CallFault
call_fault (unread.Bad fault) = calls.Answer fault
call_fault unread.NoMemory = calls.NoMemory

-- why a message got no answer
abbrev pub message_fault : ExchangeFault → CallFault
message_fault exchanges.Open = calls.Open
message_fault exchanges.Write = calls.Write
message_fault exchanges.Read = calls.Read
message_fault exchanges.Ended = calls.Ended
message_fault exchanges.BadMessage = calls.BadMessage
message_fault exchanges.TooLong = calls.TooLong
message_fault exchanges.NoMemory = calls.NoMemory
