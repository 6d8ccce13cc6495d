mod AsBox
mod Laying
mod Noting
mod Numbers
mod Reading
mod Records
mod Refusing
mod Rows
