-- What a task waits for whose call has not returned.
use Rattle.bench_types.specs.declared.cause.Cause.{Cause}
use Rattle.bench_types.specs.declared.cause.Cause.TheVariants as cause
use Rattle.bench_types.specs.declared.step.BlockingCall.TheVariants as blocking
use Rattle.bench_types.specs.declared.step.Unfinished.{Unfinished}
use Rattle.bench_types.specs.declared.step.Unfinished.TheVariants.{Made, Take, Transfer}

-- what the call has its task wait for (FreeRTOS Reference Manual, vTaskDelay, xTaskDelayUntil,
-- xTaskNotifyWait, ulTaskNotifyTake, xSemaphoreTake, xQueueSend, xQueueReceive)
abbrev pub cause_of : Unfinished → Cause
cause_of (Made (blocking.Delay ticks)) = cause.Delay
cause_of (Made (blocking.DelayUntil prev inc)) = cause.Delay
cause_of (Made (blocking.NotifyWait entry exit ticks index)) = cause.Notification
cause_of (Made (blocking.NotifyTake clear ticks index)) = cause.Notification
cause_of (Take mutex mark) = cause.Mutex mutex
cause_of (Transfer queue direction) = cause.Queue queue direction
